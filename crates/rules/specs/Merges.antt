-- What the named merge rules make of a kept state and a new one. Assumes nothing.
use Rattle.std.specs.Prelude.{ℕ, ◌+◌, ◌-◌, ◌*◌, ◌/◌, Bool, true, false, cond, not, ◌&&◌, ◌||◌, List, [], ◌∷◌, ◌++◌, map, length, take, drop, replicate, nat_le, slice_index_or}
use Rattle.std.specs.List.{range_with_len}
use Rattle.levels.specs.Kinds.{same}
use Rattle.levels.specs.Tris.{tri_allows}
use Rattle.levels.specs.declared.Tri.{Tri}
use Rattle.levels.specs.declared.Tri.TheVariants.{X}

-- two levels are the same if they allow the same bits
abbrev pub same_level : Tri → Tri → Bool
same_level v w = same (tri_allows v false) (tri_allows w false) && same (tri_allows v true) (tri_allows w true)

-- ---- plain: places that differ become X

abbrev pub joined_level : Tri → Tri → Tri
joined_level v w = cond (same_level v w) w X

-- A place that only one of the two has stays as the new state has it.
abbrev pub plain_merge : List Tri → List Tri → List Tri
plain_merge kept [] = []
plain_merge [] (w ∷ ws) = w ∷ ws
plain_merge (v ∷ vs) (w ∷ ws) = joined_level v w ∷ plain_merge vs ws

-- ---- eager: if any RAM place differs, all RAM becomes X

-- whether two stretches differ at a place that both have
abbrev pub differ : List Tri → List Tri → Bool
differ vs [] = false
differ [] (w ∷ ws) = false
differ (v ∷ vs) (w ∷ ws) = not (same_level v w) || differ vs ws

-- the places from a number on become X: the RAM follows the nets
abbrev pub unknown_from : ℕ → List Tri → List Tri
unknown_from nets s = take nets s ++ replicate (length s - nets) X

abbrev pub eager_merge : ℕ → List Tri → List Tri → List Tri
eager_merge nets kept new =
    cond (differ (drop nets kept) (drop nets new)) (unknown_from nets (plain_merge kept new)) (plain_merge kept new)

-- ---- whole words: a RAM word with any X becomes wholly X

abbrev pub has_unknown : List Tri → Bool
has_unknown [] = false
has_unknown (v ∷ vs) = same_level v X || has_unknown vs

-- the RAM word that place i belongs to, from its first place on: 16 places, or fewer where the state ends
abbrev pub word_of : ℕ → List Tri → ℕ → List Tri
word_of nets s i = take 16 (drop (nets + 16 * ((i - nets) / 16)) s)

abbrev pub whole_place : ℕ → List Tri → ℕ → Tri
whole_place nets s i = cond (nat_le nets i && has_unknown (word_of nets s i)) X (slice_index_or s i X)

abbrev pub whole_words : ℕ → List Tri → List Tri
whole_words nets s = map (whole_place nets s) (range_with_len 0 (length s))

-- one word by itself
abbrev pub whole_word : List Tri → List Tri
whole_word w = cond (has_unknown w) (replicate (length w) X) w
