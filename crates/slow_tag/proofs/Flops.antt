-- Flops counted on the way over a tag's nets. Assumes nothing.
use Rattle.std.proofs.Common.{◌≡◌, ℕ, ◌+◌, ◌<◌, ◌≤◌, Bool, min, List, [], ◌∷◌, ◌++◌, length, map, take, refl, sym, ap, ap₂, ◌∙◌, append_assoc, length-append, arith}
use Rattle.std.specs.Prelude.{Option, cond}
use Rattle.std.specs.List.{enumerate_from, scan, fold}
use Rattle.std.proofs.Math.Seq.{take-append_seam}
use Rattle.std.proofs.lemmas.List.Sums.{count_by-le-length}
use Rattle.slow_tag.specs.declared.tag.Net.{Net}
use Rattle.slow_tag.specs.declared.tag.Tag.{Tag}
use Rattle.slow_tag.specs.Uses.{holds_a_bit}
use Rattle.slow_tag.specs.Known.{flops_in, flop_or_constant, net_bit}

-- one flop more, as `saturating_add` has it, if the net is one
abbrev pub more_flops : ℕ → Net → ℕ
more_flops n net = min (n + cond (holds_a_bit net.cell.duty) 1 0) 18446744073709551615

fold_last : (f : ℕ → Net → ℕ) (n : ℕ) (nets : List Net) (net : Net) → fold f n (nets ++ (net ∷ [])) ≡ f (fold f n nets) net
fold_last f n [] net = refl
fold_last f n (other ∷ nets) net = fold_last f (f n other) nets net

flops_more : (nets : List Net) (net : Net) → flops_in (nets ++ (net ∷ [])) ≡ flops_in nets + cond (holds_a_bit net.cell.duty) 1 0
flops_more nets net = fold_last _ 0 nets net

-- the nets after some others
scanned_after : (tag : Tag) (start : ℕ) (before after : List Net) → tag.nets.items ≡ before ++ after → length tag.nets.items < 18446744073709551616
    → scan more_flops (flop_or_constant tag start) (flops_in before) after
    ≡ map (λ (p : ℕ × Net). net_bit tag start p.0 p.1) (enumerate_from (length before) after)
scanned_after tag start before [] all few = refl
scanned_after tag start before (net ∷ after) all few =
    let longer = before ++ (net ∷ []) in
    let seam : take (length before) tag.nets.items ≡ before = ap (take (length before)) all ∙ take-append_seam before (net ∷ after) in
    let long : length longer ≡ length before + 1 = length-append before (net ∷ []) in
    let fits : length before + 1 ≤ length tag.nets.items = omega (arith, ap length all, length-append before (net ∷ after)) in
    let least : flops_in longer ≤ length longer = count_by-le-length _ longer in
    let more : flops_in longer ≡ flops_in before + cond (holds_a_bit net.cell.duty) 1 0 = flops_more before net in
    let next : more_flops (flops_in before) net ≡ flops_in longer = omega arith in
    ap₂ (λ (bit : Option Bool) (bits : List (Option Bool)). bit ∷ bits)
    (ap (λ (nets : List Net). flop_or_constant tag start (flops_in nets) net) (sym seam))
    (ap (λ (n : ℕ). scan more_flops (flop_or_constant tag start) n after) next
    ∙ scanned_after tag start longer after (all ∙ sym (append_assoc before (net ∷ []) after)) few
    ∙ ap (λ (n : ℕ). map (λ (p : ℕ × Net). net_bit tag start p.0 p.1) (enumerate_from n after)) long)

pub scanned : (tag : Tag) (start : ℕ) → length tag.nets.items < 18446744073709551616
    → scan more_flops (flop_or_constant tag start) 0 tag.nets.items
    ≡ map (λ (p : ℕ × Net). net_bit tag start p.0 p.1) (enumerate_from 0 tag.nets.items)
scanned tag start few = scanned_after tag start [] tag.nets.items refl few
