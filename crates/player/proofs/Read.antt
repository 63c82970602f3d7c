-- Lines, character by character. Assumes nothing.
use Rattle.std.proofs.Common.{◌≡◌, ℕ, ◌+◌, ◌-◌, ◌*◌, ◌/◌, ◌%◌, ◌<◌, ◌≤◌, min, Bool, true, false, ◌&&◌, List, ◌++◌, length, get_or, take, drop, Some, None, sym, refl, ap, ◌∙◌, ap₂, ⊎_elim, mul-le-mul_right, div-mul-le_self, div-add-mod', arith}
use native.Mathlib.Nat.{lt-div-mul-add}
use Rattle.std.proofs.lemmas.List.{take_all, take-take, drop-drop, get_or-take, get_or-drop, get_or_past, length-drop}
use Rattle.std.proofs.Math.Seq.{take-append_seam, drop-append_seam}
use Rattle.std.proofs.Math.ListN.{drop_of_length-le}
use Rattle.std.proofs.Math.Nat.{le-div_iff_mul-le}
use Rattle.std.proofs.lemmas.Bool.{and_parts, both_ways, cases_eq, cases_lt}
use Rattle.std.proofs.lemmas.Option.{none-some}
use Rattle.bundle.specs.Format.{byte, ask, ask_at, refused_at}
use Rattle.bundle.specs.declared.refusal.Fault.{Fault}
use Rattle.bundle.specs.declared.refusal.Refusal.{Refusal}
use Rattle.bundle.specs.declared.refusal.Fault.TheVariants as fault
use Rattle.bundle.proofs.Asked.{all_good}
use Rattle.player.specs.Lines.{character, is_newline, all_levels, line_whole, line_count, lines_refusal}

-- a question that is answered yes, and one that is answered no
pub asked_yes : (b : Bool) (f : Fault) (place : ℕ) → None ≡ ask_at b f place → b ≡ true
asked_yes true f place e = refl
asked_yes false f place e = absurd (none-some (refused_at f place) e)

pub one_asked_yes : (b : Bool) (f : Fault) → None ≡ ask b f → b ≡ true
one_asked_yes true f e = refl
one_asked_yes false f e = absurd (none-some (refused_at f 0) e)

pub asked_no : (b : Bool) (f : Fault) (place : ℕ) (r : Refusal) → Some r ≡ ask_at b f place → (b ≡ false) × (Some r ≡ Some (refused_at f place))
asked_no true f place r e = absurd (none-some r (sym e))
asked_no false f place r e = (refl, e)

-- what stands in a chunk, and what is left after it
pub chunk_is : (size : ℕ) (left chunk after : List ℕ) → left ≡ chunk ++ after → length chunk ≡ min size (length left) →
    (chunk ≡ take size left) × (after ≡ drop size left)
chunk_is size left chunk after e h =
    let front : chunk ≡ take (length chunk) left = sym (ap (take (length chunk)) e ∙ take-append_seam chunk after) in
    let rest : after ≡ drop (length chunk) left = sym (ap (drop (length chunk)) e ∙ drop-append_seam chunk after) in
    ⊎_elim
    (λ (same : length chunk ≡ size). (front ∙ ap (λ (n : ℕ). take n left) same, rest ∙ ap (λ (n : ℕ). drop n left) same))
    (λ (ne : length chunk ≡ size → ⊥).
    let all : length left ≤ length chunk = omega arith in
    let short : length left ≤ size = omega arith in (
      front ∙ take_all (length chunk) left all ∙ sym (take_all size left short),
      rest ∙ drop_of_length-le left all ∙ sym (drop_of_length-le left short),
    ))
    (cases_eq (length chunk) size)

-- a line is whole by its chunk
pub chunk_whole : (n : ℕ) (text : List ℕ) (l : ℕ) (chunk : List ℕ) → chunk ≡ take (n + 1) (drop (l * (n + 1)) text) →
    (all_levels (take n chunk) && is_newline (character (byte chunk n))) ≡ line_whole n text l
chunk_whole n text l chunk e =
    ap₂ (λ (xs : List ℕ) (b : ℕ). all_levels xs && is_newline (character b))
    (ap (take n) e ∙ take-take n (n + 1) (drop (l * (n + 1)) text) (omega arith))
    (ap (λ (xs : List ℕ). get_or xs n 0) e ∙ get_or-take (n + 1) (drop (l * (n + 1)) text) n 0 (omega arith)
    ∙ get_or-drop (l * (n + 1)) text n 0)

-- what is left after line l
pub left_after : (size l : ℕ) (text : List ℕ) → drop size (drop (l * size) text) ≡ drop ((l + 1) * size) text
left_after size l text =
    drop-drop size (l * size) text ∙ ap (λ (n : ℕ). drop n text) (let e : l * size + size ≡ (l + 1) * size = omega arith in e)

-- a line of which a character is left is counted, and where none is left all are
pub line_counted : (len size l : ℕ) → 0 < size → 0 < len - l * size → l < len / size + min 1 (len % size)
line_counted len size l some left =
    let whole : l ≤ len / size = (le-div_iff_mul-le some).1 (omega arith) in
    ⊎_elim
    (λ (same : l ≡ len / size). omega (arith, div-add-mod' len size, ap (λ (k : ℕ). k * size) same))
    (λ (ne : l ≡ len / size → ⊥). omega arith)
    (cases_eq l (len / size))

-- line l, as it comes off what is left
pub line_taken : (n l size : ℕ) (text left chunk after : List ℕ) →
    left ≡ chunk ++ after → length chunk ≡ min size (length left) → 0 < length left → size ≡ n + 1 → left ≡ drop (l * (n + 1)) text →
    (l < line_count n text) × (chunk ≡ take (n + 1) (drop (l * (n + 1)) text)) × (after ≡ drop ((l + 1) * (n + 1)) text)
line_taken n l size text left chunk after e h some same here =
    let is = chunk_is (n + 1) left chunk after e (h ∙ ap (λ (k : ℕ). min k (length left)) same) in (
      line_counted (length text) (n + 1) l (omega arith) (omega (arith, ap length here, length-drop (l * (n + 1)) text)),
      is.0 ∙ ap (take (n + 1)) here,
      is.1 ∙ ap (drop (n + 1)) here ∙ left_after (n + 1) l text,
    )

pub lines_counted : (len size l : ℕ) → 0 < size → len - l * size ≡ 0 → len / size + min 1 (len % size) ≤ l
lines_counted len size l some left =
    ⊎_elim
    (λ (less : l < len / size + min 1 (len % size)).
    ⊎_elim
    (λ (before : l < len / size).
    let next : l + 1 ≤ len / size = omega arith in
    absurd (omega (arith, mul-le-mul_right size next, div-mul-le_self len size)))
    (λ (past : len / size ≤ l).
    let same : l ≡ len / size = omega arith in
    absurd (omega (arith, ap (λ (k : ℕ). k * size) same, div-add-mod' len size)))
    (cases_lt l (len / size)))
    (λ (all : len / size + min 1 (len % size) ≤ l). all)
    (cases_lt l (len / size + min 1 (len % size)))

-- a newline lies inside the text
newline_inside : (text : List ℕ) (i : ℕ) → length text ≤ i → is_newline (character (byte text i)) ≡ true → ⊥
newline_inside text i h e = both_ways (is_newline (character (byte text i))) (ap (λ (b : ℕ). is_newline (character b)) (get_or_past text i 0 h)) e

-- text whose every line is whole is just these lines
pub whole_lines : (n : ℕ) (text : List ℕ) → lines_refusal n text ≡ None → line_count n text * (n + 1) ≤ length text
whole_lines n text none =
    ⊎_elim
    (λ (e : length text % (n + 1) ≡ 0).
    let count : line_count n text ≡ length text / (n + 1) = omega arith in
    omega (arith, ap (λ (k : ℕ). k * (n + 1)) count, div-mul-le_self (length text) (n + 1)))
    (λ (ne : length text % (n + 1) ≡ 0 → ⊥).
    let l : ℕ = length text / (n + 1) in
    let good : line_whole n text l ≡ true = all_good (line_whole n text) fault.Lines 0 (line_count n text) none l (omega arith) (omega arith) in
    let past : length text < l * (n + 1) + (n + 1) = lt-div-mul-add (omega arith) in
    absurd (newline_inside text (l * (n + 1) + n) (omega arith) (and_parts _ (is_newline (character (byte text (l * (n + 1) + n)))) good).1))
    (cases_eq (length text % (n + 1)) 0)
