-- Terms: coded candidates whose codes are multiplied by their points, once more at each sum.
use Rattle.std.proofs.Common.{◌≡◌, ℕ, zero, suc, ◌+◌, ◌-◌, ◌<◌, List, [], ◌∷◌, map, length, get_or, sym, refl, ap, ◌∙◌, ap₂, add-one, arith}
use Rattle.std.proofs.lemmas.List.{get_or-map, length-map}
use Rattle.field.specs.Field.{Ops, Laws, power}
use Rattle.field.specs.Sums.{entry, total}
use Rattle.field.proofs.Laws.{one_times, times_mod_right}
use Rattle.solve.specs.declared.entries.Coded.{Coded}
use Rattle.solve.specs.Candidates.{candidates_of, codes_of, raised, sum_at}
use Rattle.solve.proofs.Coding.{none, length_candidates, code_is, point_is}
use Rattle.solve.proofs.Vectors.{total_same}

pub total_more : (f : Ops) (i : ℕ) (h : ℕ → ℕ) → f.plus (total f i (λ k. h (k - 1))) (h i) ≡ total f (i + 1) (λ k. h (k - 1))
total_more f i h =
    ap (λ n. f.plus (total f i (λ k. h (k - 1))) (h n)) (let e : i ≡ suc i - 1 = omega arith in e) ∙ ap (λ n. total f n (λ k. h (k - 1))) (sym (add-one i))

-- a term after j turns
abbrev pub after : Ops → ℕ → Coded → Coded
after f zero c = c
after f (suc j) c = raised f (after f j c)

after_more : (f : Ops) (j : ℕ) (cs : List Coded) → map (raised f) (map (after f j) cs) ≡ map (after f (suc j)) cs
after_more f j [] = refl
after_more f j (c ∷ cs) = ap (λ rest. raised f (after f j c) ∷ rest) (after_more f j cs)

pub after_none : (f : Ops) (cs : List Coded) → map (after f 0) cs ≡ cs
after_none f [] = refl
after_none f (c ∷ cs) = ap (λ rest. c ∷ rest) (after_none f cs)

same_candidate : (f : Ops) (j : ℕ) (c : Coded) → (after f j c).candidate ≡ c.candidate
same_candidate f zero c = refl
same_candidate f (suc j) c = same_candidate f j c

module _ {f : Ops} (l : Laws f) where
  code_after : (j : ℕ) (c : Coded) → (after f (suc j) c).code ≡ f.times c.code (power f c.candidate.point (suc j))
  code_after zero c = sym (ap (f.times c.code) (one_times l c.candidate.point) ∙ times_mod_right l c.code c.candidate.point)
  code_after (suc j) c =
      ap₂ f.times (code_after j c) (ap (λ d. d.point) (same_candidate f (suc j) c))
      ∙ l.times_assoc c.code (power f c.candidate.point (suc j)) c.candidate.point

  -- the terms add up to the sum
  sum_after : (cs : List Coded) (j : ℕ) → total f (length (candidates_of cs)) (entry (codes_of (map (after f (suc j)) cs)))
      ≡ sum_at f (candidates_of cs) (codes_of cs) (suc j)
  sum_after cs j = total_same f (length (candidates_of cs)) _ _ (λ k b.
      let i = k - 1 in
      let within : i < length cs = omega (arith, length_candidates cs) in
      code_is (map (after f (suc j)) cs) i (simp length-map within)
      ∙ ap (λ c. c.code) (get_or-map (after f (suc j)) cs i none none within)
      ∙ code_after j (get_or cs i none)
      ∙ ap₂ (λ y z. f.times y (power f z (suc j))) (sym (code_is cs i within)) (sym (point_is cs i within)))

  -- one turn: the terms are multiplied, and x is their sum
  pub turn : (cs old new : List Coded) (j x : ℕ) → old ≡ map (after f j) cs → new ≡ map (raised f) old → x ≡ total f (length old) (entry (codes_of new))
      → (new ≡ map (after f (j + 1)) cs) × (x ≡ sum_at f (candidates_of cs) (codes_of cs) (j + 1))
  turn cs old new j x is made sum =
      let turned : new ≡ map (after f (suc j)) cs = made ∙ ap (map (raised f)) is ∙ after_more f j cs in
      let long : length old ≡ length (candidates_of cs) = ap length is ∙ length-map cs (after f j) ∙ sym (length_candidates cs) in
      rw add-one (turned, sum ∙ ap₂ (λ n xs. total f n (entry (codes_of xs))) long turned ∙ sum_after cs j)
