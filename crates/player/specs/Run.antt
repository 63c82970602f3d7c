-- A run in bits over lines of inputs. Assumes nothing.
use Rattle.std.specs.Prelude.{◌≡◌, ℕ, zero, suc, ◌+◌, ◌*◌, Bool, cond, ◌&&◌, List, [], ◌∷◌, ◌++◌, map, length, drop, Some, None, Option, Result, MatchResult, ◌==◌, nat_le}
use Rattle.levels.specs.declared.Bit.{Bit}
use Rattle.levels.specs.Bits.{bit_kind}
use Rattle.bundle.specs.declared.refusal.Refusal.{Refusal}
use Rattle.bundle.specs.declared.refusal.Fault.TheVariants as fault
use Rattle.bundle.specs.Format.{ask, first_refusal}
use Rattle.model.specs.Core.{Core, places, inputs}
use Rattle.model.specs.Cycle.{given_by, start_state, key_of, halted}
use Rattle.model.specs.Tag.{tag_cycle, tag_energy}
use Rattle.player.specs.declared.run.Cycle.{Cycle}
use Rattle.player.specs.Lines.{character, level_of, line_bytes, line_count, lines_refusal}

module _ (d : Core) where
  -- the state after a cycle whose inputs are the characters of a line
  abbrev pub cycle_of : List ℕ → List Bit → List Bit
  cycle_of line s = tag_cycle d s (given_by bit_kind d (map (λ b. level_of (character b)) line))

  -- what a cycle shows: the key of the state that it comes to, and its energy
  abbrev pub shown_cycle : List Bit → List Bit → Cycle
  shown_cycle s t = record { key = key_of bit_kind d t; energy = tag_energy d s t }

  -- The lent lengths that a run of so many lines asks for: a whole state, twice as many places of scratch and 1,024 more, a
  -- cycle for each line.
  abbrev pub room : ℕ → ℕ → ℕ → ℕ → Bool
  room lines state scratch cycles = state == places d && nat_le (2 * places d + 1024) scratch && nat_le lines cycles

module _ (d : Core) (text : List ℕ) where
  -- the state after the cycle of line l
  abbrev pub next_state : ℕ → List Bit → List Bit
  next_state l s = cycle_of d (line_bytes (inputs d) text l) s

  -- the cycles of m lines from line l on, until the tag halts
  abbrev pub cycles_from : ℕ → ℕ → List Bit → List Cycle
  cycles_from l zero s = []
  cycles_from l (suc m) s =
      cond (halted bit_kind d s) [] (shown_cycle d s (next_state l s) ∷ cycles_from (l + 1) m (next_state l s))

  -- the state that these cycles end in
  abbrev pub state_from : ℕ → ℕ → List Bit → List Bit
  state_from l zero s = s
  state_from l (suc m) s = cond (halted bit_kind d s) s (state_from (l + 1) m (next_state l s))

  -- m lines from line 0 on, from state s: the cycles that are played are written first, and the others stay
  pub record Ran (m : ℕ) (s : List Bit) (n : ℕ) (after : List Bit) (old_cycles cycles : List Cycle) : Type 0 where
    pub count : n ≡ length (cycles_from 0 m s)
    pub last_state : after ≡ state_from 0 m s
    pub shown : cycles ≡ cycles_from 0 m s ++ drop n old_cycles

  -- ---- the call that plays a run

  -- the memory is asked for first, then the lines
  abbrev pub run_refusal : ℕ → ℕ → ℕ → Option Refusal
  run_refusal state scratch cycles =
      first_refusal (ask (room d (line_count (inputs d) text) state scratch cycles) fault.Memory ∷ (lines_refusal (inputs d) text ∷ []))

  -- The run begins in start 0 and takes a line a cycle. It is played or refused, and a refused call leaves state and cycles as they were
  abbrev pub Plays : ℕ → List Bit → List Bit → List Cycle → List Cycle → Result ℕ Refusal → Type 0
  Plays scratch before after old_cycles cycles result =
      MatchResult result
      (λ n. (run_refusal (length before) scratch (length old_cycles) ≡ None) × Ran (line_count (inputs d) text) (start_state bit_kind d 0) n after old_cycles cycles)
      (λ e. (run_refusal (length before) scratch (length old_cycles) ≡ Some e) × (after ≡ before) × (cycles ≡ old_cycles))
