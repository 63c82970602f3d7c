-- A state that covers another still does after a cycle. Assumes nothing.
use Rattle.std.proofs.Common.{◌≡◌, ℕ, zero, suc, ◌+◌, ◌*◌, ◌/◌, ◌%◌, Bool, true, false, cond, eqb, ltb, List, [], ◌∷◌, ◌++◌, map, length, get_or, set, sym, refl, ap, ◌∙◌}
use Rattle.std.specs.List.{range_with_len}
use Rattle.levels.specs.Kinds.{Kind, Lawful, Covers, Cover, bit_at, choice}
use Rattle.levels.specs.declared.Tri.{Tri}
use Rattle.levels.specs.declared.Tri.TheVariants.{Zero, One, X}
use Rattle.levels.specs.Cells.{cell_covers}
use Rattle.model.specs.declared.net.Gate.{Gate}
use Rattle.model.specs.declared.net.Driver.{Driver}
use Rattle.model.specs.declared.net.Driver.TheVariants as driver
use Rattle.model.specs.declared.net.Net.{Net}
use Rattle.model.specs.declared.net.RamWord.{RamWord}
use Rattle.model.specs.Core.{Core, no_word, driver_at, flops, flops_below, inputs_below}
use Rattle.model.specs.Cycle.{at, pin, gate_output, cell_of_two, paired, picked, written, rom_leaves, ram_leaves, edged, word_written, stored, edge, given_by, settle_net, settled_from, settled, cycled, of_start, begun, ram_begun, start_state}
use Rattle.model.specs.Monotone.{InputsCover}

module _ {V W : Type 0} (k : Kind V) (j : Kind W) where
  pub covers_length : (s : List V) (c : List W) → Cover k j s c → length s ≡ length c
  covers_length [] [] h = refl
  covers_length [] (w ∷ ws) h = absurd h
  covers_length (v ∷ vs) [] h = absurd h
  covers_length (v ∷ vs) (w ∷ ws) h = ap suc (covers_length vs ws h.1)

  pub covers_set : (s : List V) (c : List W) (i : ℕ) (v : V) (w : W) → Cover k j s c → Covers k j v w → Cover k j (set s i v) (set c i w)
  covers_set [] [] i v w h e = tt
  covers_set [] (y ∷ ys) i v w h e = absurd h
  covers_set (x ∷ xs) [] i v w h e = absurd h
  covers_set (x ∷ xs) (y ∷ ys) zero v w h e = (e, h.1)
  covers_set (x ∷ xs) (y ∷ ys) (suc i) v w h e = (h.0, covers_set xs ys i v w h.1 e)

  pub covers_append : (s t : List V) (c e : List W) → Cover k j s c → Cover k j t e → Cover k j (s ++ t) (c ++ e)
  covers_append [] t [] e h g = g
  covers_append [] t (w ∷ ws) e h g = absurd h
  covers_append (v ∷ vs) t [] e h g = absurd h
  covers_append (v ∷ vs) t (w ∷ ws) e h g = (h.0, covers_append vs t ws e h.1 g)

  pub covers_map : {A : Type 0} (f : A → V) (g : A → W) → ((x : A) → Covers k j (f x) (g x)) → (xs : List A) → Cover k j (map f xs) (map g xs)
  covers_map f g h [] = tt
  covers_map f g h (x ∷ xs) = (h x, covers_map f g h xs)

  module _ (lk : Lawful k) (lj : Lawful j) where
    pub covers_bit : (b : Bool) → Covers k j (k.of_bit b) (j.of_bit b)
    covers_bit b c e = lk.exact_bit b c ∙ sym (lj.exact_bit b c) ∙ e

    pub covers_choice : (a x y : V) (b u v : W) → Covers k j a b → Covers k j x u → Covers k j y v → Covers k j (choice k a x y) (choice j b u v)
    covers_choice a x y b u v ha hx hy =
        cell_covers k j lk lj 202 (x ∷ (y ∷ (a ∷ (k.of_bit false ∷ [])))) (u ∷ (v ∷ (b ∷ (j.of_bit false ∷ [])))) (hx, (hy, (ha, (covers_bit false, tt))))

    covers_two : (t : ℕ) (x y : V) (u v : W) → Covers k j x u → Covers k j y v → Covers k j (cell_of_two k t x y) (cell_of_two j t u v)
    covers_two t x y u v hx hy =
        cell_covers k j lk lj t (x ∷ (y ∷ (k.of_bit false ∷ (k.of_bit false ∷ [])))) (u ∷ (v ∷ (j.of_bit false ∷ (j.of_bit false ∷ []))))
        (hx, (hy, (covers_bit false, (covers_bit false, tt))))

    covers_written : (on : V) (real : W) (ads : List V) (bs : List W) (word : ℕ) → Covers k j on real → Cover k j ads bs →
        Covers k j (written k on ads word) (written j real bs word)
    covers_written on real [] [] word g h = g
    covers_written on real [] (b ∷ bs) word g h = absurd h
    covers_written on real (a ∷ ads) [] word g h = absurd h
    covers_written on real (a ∷ ads) (b ∷ bs) word g h =
        covers_written (cell_of_two k (cond (eqb (word % 2) 1) 8 2) on a) (cell_of_two j (cond (eqb (word % 2) 1) 8 2) real b) ads bs (word / 2)
        (covers_two (cond (eqb (word % 2) 1) 8 2) on a real b g h.0) h.1

    module _ (wide : (b : Bool) → k.allows k.blank b ≡ true) where
      pub covers_blank : (w : W) → Covers k j k.blank w
      covers_blank w b e = wide b

      pub covers_at : (s : List V) (c : List W) → Cover k j s c → (i : ℕ) → Covers k j (at k s i) (at j c i)
      covers_at [] [] h i = covers_blank j.blank
      covers_at [] (w ∷ ws) h i = absurd h
      covers_at (v ∷ vs) [] h i = absurd h
      covers_at (v ∷ vs) (w ∷ ws) h zero = h.0
      covers_at (v ∷ vs) (w ∷ ws) h (suc i) = covers_at vs ws h.1 i

      covers_paired : (a : V) (b : W) (s : List V) (c : List W) → Covers k j a b → Cover k j s c → Cover k j (paired k a s) (paired j b c)
      covers_paired a b s c g h =
          go (length s) (length c) (covers_length s c h)
        where
          go : (m n : ℕ) → m ≡ n →
              Cover k j (map (λ i. choice k a (at k s (2 * i)) (at k s (2 * i + 1))) (range_with_len 0 (m / 2)))
              (map (λ i. choice j b (at j c (2 * i)) (at j c (2 * i + 1))) (range_with_len 0 (n / 2)))
          go m n e =
              rw e (covers_map (λ i. choice k a (at k s (2 * i)) (at k s (2 * i + 1))) (λ i. choice j b (at j c (2 * i)) (at j c (2 * i + 1)))
              (λ i. covers_choice a (at k s (2 * i)) (at k s (2 * i + 1)) b (at j c (2 * i)) (at j c (2 * i + 1)) g
              (covers_at s c h (2 * i)) (covers_at s c h (2 * i + 1)))
              (range_with_len 0 (n / 2)))

      covers_picked : (ads : List V) (bs : List W) (s : List V) (c : List W) → Cover k j ads bs → Cover k j s c →
          Covers k j (picked k ads s) (picked j bs c)
      covers_picked [] [] s c g h = covers_at s c h 0
      covers_picked [] (b ∷ bs) s c g h = absurd g
      covers_picked (a ∷ ads) [] s c g h = absurd g
      covers_picked (a ∷ ads) (b ∷ bs) s c g h =
          covers_picked ads bs (paired k a s) (paired j b c) g.1 (covers_paired a b s c g.0 h)

      -- ---- gates settle

      covers_pin : (s : List V) (c : List W) → Cover k j s c → (g : Gate) (i : ℕ) → Covers k j (pin k s g i) (pin j c g i)
      covers_pin s c h g i = go (ltb i g.used)
        where
          go : (b : Bool) → Covers k j (cond b (at k s (get_or g.pins i 0)) (k.of_bit false)) (cond b (at j c (get_or g.pins i 0)) (j.of_bit false))
          go true = covers_at s c h (get_or g.pins i 0)
          go false = covers_bit false

      pub covers_gate : (s : List V) (c : List W) → Cover k j s c → (g : Gate) → Covers k j (gate_output k s g) (gate_output j c g)
      covers_gate s c h g =
          cell_covers k j lk lj g.truth (pin k s g 0 ∷ (pin k s g 1 ∷ (pin k s g 2 ∷ (pin k s g 3 ∷ []))))
          (pin j c g 0 ∷ (pin j c g 1 ∷ (pin j c g 2 ∷ (pin j c g 3 ∷ []))))
          (covers_pin s c h g 0, (covers_pin s c h g 1, (covers_pin s c h g 2, (covers_pin s c h g 3, tt))))

      module _ (d : Core) where
        covers_settle : (s : List V) (c : List W) → Cover k j s c → (i : ℕ) (u : Driver) → Cover k j (settle_net k d s i u) (settle_net j d c i u)
        covers_settle s c h i (driver.Gate g) = covers_set s c i (gate_output k s g) (gate_output j c g) h (covers_gate s c h g)
        covers_settle s c h i (driver.Flop «data») = h
        covers_settle s c h i (driver.EnabledFlop «data» enable) = h
        covers_settle s c h i driver.Input = h
        covers_settle s c h i (driver.RomBit bit) = h
        covers_settle s c h i (driver.RamBit bit) = h
        covers_settle s c h i (driver.Constant bit) = h

        pub covers_settled_from : (i : ℕ) (ns : List Net) (s : List V) (c : List W) → Cover k j s c →
            Cover k j (settled_from k d i ns s) (settled_from j d i ns c)
        covers_settled_from i [] s c h = h
        covers_settled_from i (n ∷ ns) s c h =
            covers_settled_from (i + 1) ns (settle_net k d s i n.driver) (settle_net j d c i n.driver) (covers_settle s c h i n.driver)

        pub covers_settled : (s : List V) (c : List W) → Cover k j s c → Cover k j (settled k d s) (settled j d c)
        covers_settled = covers_settled_from 0 d.nets

        -- ---- the edge

        pub covers_given : (line : List V) (real : List W) → Cover k j line real → InputsCover k j (given_by k d line) (given_by j d real)
        covers_given line real h i = covers_at line real h (inputs_below d i)

        module _ (s : List V) (c : List W) (h : Cover k j s c) where
          covers_here : (i : ℕ) → Covers k j (at k s i) (at j c i)
          covers_here = covers_at s c h

          covers_wires : (ps : List ℕ) → Cover k j (map (at k s) ps) (map (at j c) ps)
          covers_wires = covers_map (at k s) (at j c) covers_here

          covers_stored : (word bit : ℕ) → Covers k j (stored k d s word bit) (stored j d c word bit)
          covers_stored word bit =
              covers_choice (word_written k d s word) (at k s (length d.nets + (16 * word + bit))) (at k s (get_or d.write_data bit 0))
              (word_written j d c word) (at j c (length d.nets + (16 * word + bit))) (at j c (get_or d.write_data bit 0))
              (covers_written (at k s d.write_enable) (at j c d.write_enable) (map (at k s) d.ram_address) (map (at j c) d.ram_address) word
              (covers_here d.write_enable) (covers_wires d.ram_address))
              (covers_here (length d.nets + (16 * word + bit))) (covers_here (get_or d.write_data bit 0))

          module _ (given : ℕ → V) (real : ℕ → W) (inputs : InputsCover k j given real) where
            covers_edged : (i : ℕ) (u : Driver) → Covers k j (edged k d s given i u) (edged j d c real i u)
            covers_edged i (driver.Gate g) = covers_here i
            covers_edged i (driver.Flop «data») = covers_here «data»
            covers_edged i (driver.EnabledFlop «data» enable) =
                covers_choice (at k s enable) (at k s i) (at k s «data») (at j c enable) (at j c i) (at j c «data»)
                (covers_here enable) (covers_here i) (covers_here «data»)
            covers_edged i driver.Input = inputs i
            covers_edged i (driver.RomBit bit) =
                covers_picked (map (at k s) d.rom_address) (map (at j c) d.rom_address) (rom_leaves k d bit) (rom_leaves j d bit)
                (covers_wires d.rom_address)
                (covers_map (λ w. k.of_bit (bit_at w bit)) (λ w. j.of_bit (bit_at w bit)) (λ w. covers_bit (bit_at w bit)) d.rom)
            covers_edged i (driver.RamBit bit) =
                covers_picked (map (at k s) d.ram_address) (map (at j c) d.ram_address) (ram_leaves k d s bit) (ram_leaves j d c bit)
                (covers_wires d.ram_address)
                (covers_map (λ w. at k s (length d.nets + (16 * w + bit))) (λ w. at j c (length d.nets + (16 * w + bit)))
                (λ w. covers_here (length d.nets + (16 * w + bit))) (range_with_len 0 (length d.ram)))
            covers_edged i (driver.Constant bit) = covers_bit bit

            pub covers_edge : Cover k j (edge k d s given) (edge j d c real)
            covers_edge =
                covers_append
                (map (λ i. edged k d s given i (driver_at d i)) (range_with_len 0 (length d.nets)))
                (map (λ q. stored k d s (q / 16) (q % 16)) (range_with_len 0 (16 * length d.ram)))
                (map (λ i. edged j d c real i (driver_at d i)) (range_with_len 0 (length d.nets)))
                (map (λ q. stored j d c (q / 16) (q % 16)) (range_with_len 0 (16 * length d.ram)))
                (covers_map (λ i. edged k d s given i (driver_at d i)) (λ i. edged j d c real i (driver_at d i))
                (λ i. covers_edged i (driver_at d i)) (range_with_len 0 (length d.nets)))
                (covers_map (λ q. stored k d s (q / 16) (q % 16)) (λ q. stored j d c (q / 16) (q % 16))
                (λ q. covers_stored (q / 16) (q % 16)) (range_with_len 0 (16 * length d.ram)))

            pub covers_cycled : Cover k j (cycled k d s given) (cycled j d c real)
            covers_cycled = covers_settled (edge k d s given) (edge j d c real) covers_edge

        -- ---- start states

        covers_of_start : (t : Tri) → Covers k j (of_start k d t) (of_start j d t)
        covers_of_start Zero = covers_bit false
        covers_of_start One = covers_bit true
        covers_of_start X = covers_blank j.blank

        covers_begun : (n i : ℕ) (u : Driver) → Covers k j (begun k d n i u) (begun j d n i u)
        covers_begun n i (driver.Gate g) = covers_blank j.blank
        covers_begun n i (driver.Flop «data») = covers_of_start (get_or d.starts (n * flops d + flops_below d i) X)
        covers_begun n i (driver.EnabledFlop «data» enable) = covers_of_start (get_or d.starts (n * flops d + flops_below d i) X)
        covers_begun n i driver.Input = covers_blank j.blank
        covers_begun n i (driver.RomBit bit) = covers_blank j.blank
        covers_begun n i (driver.RamBit bit) = covers_blank j.blank
        covers_begun n i (driver.Constant bit) = covers_bit bit

        covers_ram_begun : (word : RamWord) (bit : ℕ) → Covers k j (ram_begun k d word bit) (ram_begun j d word bit)
        covers_ram_begun word bit = go (bit_at word.unknown bit)
          where
            go : (b : Bool) → Covers k j (cond b k.blank (k.of_bit (bit_at word.value bit))) (cond b j.blank (j.of_bit (bit_at word.value bit)))
            go true = covers_blank j.blank
            go false = covers_bit (bit_at word.value bit)

        pub covers_start : (n : ℕ) → Cover k j (start_state k d n) (start_state j d n)
        covers_start n =
            covers_settled
            (map (λ i. begun k d n i (driver_at d i)) (range_with_len 0 (length d.nets))
            ++ map (λ q. ram_begun k d (get_or d.ram (q / 16) no_word) (q % 16)) (range_with_len 0 (16 * length d.ram)))
            (map (λ i. begun j d n i (driver_at d i)) (range_with_len 0 (length d.nets))
            ++ map (λ q. ram_begun j d (get_or d.ram (q / 16) no_word) (q % 16)) (range_with_len 0 (16 * length d.ram)))
            (covers_append
            (map (λ i. begun k d n i (driver_at d i)) (range_with_len 0 (length d.nets)))
            (map (λ q. ram_begun k d (get_or d.ram (q / 16) no_word) (q % 16)) (range_with_len 0 (16 * length d.ram)))
            (map (λ i. begun j d n i (driver_at d i)) (range_with_len 0 (length d.nets)))
            (map (λ q. ram_begun j d (get_or d.ram (q / 16) no_word) (q % 16)) (range_with_len 0 (16 * length d.ram)))
            (covers_map (λ i. begun k d n i (driver_at d i)) (λ i. begun j d n i (driver_at d i))
            (λ i. covers_begun n i (driver_at d i)) (range_with_len 0 (length d.nets)))
            (covers_map (λ q. ram_begun k d (get_or d.ram (q / 16) no_word) (q % 16)) (λ q. ram_begun j d (get_or d.ram (q / 16) no_word) (q % 16))
            (λ q. covers_ram_begun (get_or d.ram (q / 16) no_word) (q % 16)) (range_with_len 0 (16 * length d.ram))))
