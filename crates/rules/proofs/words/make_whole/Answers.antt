use Rattle.std.proofs.Common.{◌≡◌, ℕ, ◌+◌, ◌-◌, ◌%◌, ◌<◌, ◌≤◌, min, List, length, get_or, drop, slice_range, sym, refl, ap, ◌∙◌, ⊎_elim, arith}
use Rattle.std.proofs.lemmas.Bool.{cases_lt}
use Rattle.std.proofs.lemmas.List.{length-drop, length-take-le}
use borrow.Rule.Slice.PartMut.{put_mid}
use Rattle.levels.specs.declared.Tri.{Tri}
use Rattle.levels.specs.declared.Tri.TheVariants.{X}
use Rattle.rules.specs.Merges.{whole_words, whole_word}
use Rattle.rules.specs.Places.{Halfway, halfway_on, halfway_all, length_put, put_below, put_inside, put_above, length_whole, whole_past, whole_net, whole_step}
use Rattle.rules.proofs.words.make_whole.Goals as goal

-- a word of m places from `first` on was made whole, and the next begins at first + 16
module _ (nets first m : ℕ) (start s w : List Tri) (low : nets ≤ first) (inside : first < length s) (aligned : (first - nets) % 16 ≡ 0)
    (len : length s ≡ length start) (least : m ≡ min 16 (length s - first)) (whole : w ≡ whole_word (slice_range s first (first + m)))
    (kept : length w ≡ length (slice_range s first (first + m))) (half : Halfway (whole_words nets start) start s first) where
  abbrev size : ℕ
  size = first + m - first

  fits : first + size ≤ length s
  fits = omega arith

  long : length w ≡ size
  long = kept ∙ length-take-le size (drop first s) (omega (arith, length-drop first s))

  word_done : Halfway (whole_words nets start) start (put_mid first size s w) (first + 16)
  word_done =
      halfway_on (whole_words nets start) start s (put_mid first size s w) first (first + 16) (omega arith) half
      (put_below first size s w fits long)
      (λ k a b. ⊎_elim
      (λ l. put_inside first size s w fits long k a (omega arith)
      ∙ ap (λ (t : List Tri). get_or t (k - first) X) whole
      ∙ whole_step nets start s first (first + m) len low aligned (ap (λ (n : ℕ). first + n) least) half.1 k a l)
      (λ g. put_above first size s w fits long k (omega arith) ∙ half.1 k a ∙ whole_past nets start k (omega arith))
      (cases_lt k (first + m)))
      (λ k b. put_above first size s w fits long k (omega arith))

  all_done : length s ≤ first + 16 → put_mid first size s w ≡ whole_words nets start
  all_done last =
      halfway_all (whole_words nets start) start (put_mid first size s w) (first + 16)
      (length_put first size s w fits long ∙ len ∙ sym (length_whole nets start))
      (λ k b. whole_past nets start k (omega arith))
      word_done

pub loop-first-init : goal.loop-first-init
loop-first-init c = (omega arith, λ _. omega arith, (whole_net c.args.nets c.args.state.now, λ k b. refl))

pub loop-first-preserved : goal.loop-first-preserved
loop-first-preserved c =
    let i = c.loop-first.invariant in (
      omega arith,
      λ h. omega (arith, i.1 (omega arith)),
      word_done c.args.nets c.loop-first.first c.min.result c.args.state.now c.loop-first.state c.make_word_whole.new.word i.0 (omega arith)
          (i.1 (omega arith)) c.loop-first.auto.state c.min.ensures c.make_word_whole.ensures c.make_word_whole.auto.word i.2,
    )

pub returns : goal.returns
returns c =
    halfway_all (whole_words c.args.nets c.args.state.now) c.args.state.now c.loop-first.state c.loop-first.first
    (c.loop-first.auto.state ∙ sym (length_whole c.args.nets c.args.state.now))
    (λ k b. whole_past c.args.nets c.args.state.now k (omega arith))
    c.loop-first.invariant.2

-- where the next number would not fit
pub returns-2 : goal.returns-2
returns-2 c =
    let i = c.loop-first.invariant in
    all_done c.args.nets c.loop-first.first c.min.result c.args.state.now c.loop-first.state c.make_word_whole.new.word i.0 (omega arith)
    (i.1 (omega arith)) c.loop-first.auto.state c.min.ensures c.make_word_whole.ensures c.make_word_whole.auto.word i.2 (omega arith)
