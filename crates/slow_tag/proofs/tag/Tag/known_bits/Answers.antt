use Rattle.std.proofs.Common.{rules, ◌≡◌, ◌<◌, Bool, List, ◌++◌, length, map, take, take_all, get_or, Ok, refl, sym, ap, ap₂, ◌∙◌, arith}
use Rattle.std.specs.Prelude.{Option}
use Rattle.std.specs.List.{range_with_len, flat_map, scan}
use Rattle.std.proofs.lemmas.List.{flat_map_more, take_more}
use Rattle.std.proofs.lemmas.Iterator.{items_from_collect, YieldsList-from_slice, YieldsList-from_map, YieldsList-from_range}
use Rattle.std.proofs.lemmas.Iterator.Consumers.{YieldsList-at, YieldsList-from_scan}
use Rattle.std.proofs.lemmas.Iterator.Adapters.{items_from_extend}
use Rattle.std.specs.declared.alloc.AllocError.{AllocError}
use Rattle.slow_tag.specs.declared.tag.RamWord.{RamWord}
use Rattle.slow_tag.specs.Known.{flop_or_constant, ram_bit}
use Rattle.slow_tag.proofs.Flops.{more_flops, scanned}
use Rattle.slow_tag.proofs.tag.Tag.known_bits.Goals as goal

abbrev bits_of : RamWord → List (Option Bool)
bits_of word = map (ram_bit word) (range_with_len 0 16)

pub loop-word-preserved : goal.loop-word-preserved
loop-word-preserved c =
    let words : List RamWord = c.deref-word-items.result.now in
    let i = c.loop-word.word-index in
    let word : RamWord = get_or words i (record { value = 0; mask = 0 }) in
    let nets : List (Option Bool) = c.in_ok-known.known.items in
    let added : c.extend.new.self.items ≡ c.loop-word.known.items ++ bits_of word
    = (items_from_extend {E = AllocError} (Ok c.in_ok-extend.field-0) c.in_ok-extend.ensures.ran (YieldsList-from_map _ (ram_bit word)
    (YieldsList-at c.map.ensures.source (YieldsList-from_range 0 16 16 (search rules) refl))
    c.map.ensures.closure
    (λ p r h m. search rules))).0 in
    added
    ∙ ap (λ (known : List (Option Bool)). known ++ bits_of word) c.loop-word.invariant
    ∙ flat_map_more bits_of nets (take i words) word
    ∙ ap (λ (front : List RamWord). nets ++ flat_map bits_of front) (sym (take_more words i _ (omega arith)))

pub returns : goal.returns
returns c =
    let tag = c.args.self.now in
    let words : List RamWord = c.deref-word-items.result.now in
    let few : length tag.nets.items < 18446744073709551616 = omega (arith, c.deref.ensures.len) in
    let nets : c.in_ok-known.known.items ≡ scan more_flops (flop_or_constant tag c.args.start) 0 tag.nets.items
    = items_from_collect {E = AllocError} (Ok c.in_ok-known.known) c.in_ok-known.ensures.ran (YieldsList-from_scan _ more_flops (flop_or_constant tag c.args.start) 0
    (YieldsList-at c.scan.ensures.source (YieldsList-from_slice tag.nets.items cc))
    c.scan.ensures.state c.scan.ensures.closure
    (λ b x r q n k. search rules)) in
    c.loop-word.invariant
    ∙ ap₂ (λ (known : List (Option Bool)) (front : List RamWord). known ++ flat_map bits_of front)
    (nets ∙ scanned tag c.args.start few)
    (take_all c.loop-word.word-index words (omega arith) ∙ c.deref-word-items.ensures.value)
