-- The merge rules by their numbers, and what each of them means. Assumes nothing.
use Rattle.std.specs.Prelude.{ℕ, zero, suc}
use Rattle.levels.specs.declared.Tri.{Tri}
use Rattle.record.specs.Record.{Meaning}
use Rattle.rules.specs.Meanings.{plain_meaning, eager_meaning, whole_meaning}
use Rattle.beside.specs.declared.rule.Rule.{Rule}
use Rattle.beside.specs.declared.rule.Rule.TheVariants as rule

abbrev pub rule_of : ℕ → Rule
rule_of zero = rule.Plain
rule_of (suc zero) = rule.Eager
rule_of (suc (suc zero)) = rule.Words
rule_of (suc (suc (suc zero))) = rule.EagerWords
rule_of (suc (suc (suc (suc n)))) = rule.EagerWordsTwice

abbrev pub place_of_rule : Rule → ℕ
place_of_rule rule.Plain = 0
place_of_rule rule.Eager = 1
place_of_rule rule.Words = 2
place_of_rule rule.EagerWords = 3
place_of_rule rule.EagerWordsTwice = 4

-- what the library's rule of this name answers and merges
abbrev pub meaning_of : Rule → Meaning Tri
meaning_of rule.Plain = plain_meaning
meaning_of rule.Eager = eager_meaning
meaning_of rule.Words = whole_meaning plain_meaning
meaning_of rule.EagerWords = whole_meaning eager_meaning
meaning_of rule.EagerWordsTwice = whole_meaning (whole_meaning eager_meaning)
