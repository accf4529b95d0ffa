-- Coded candidates: what stands at a place; and codes that the points give.
use Rattle.std.proofs.Common.{◌≡◌, ℕ, zero, suc, ◌<◌, List, [], ◌∷◌, map, length, get_or, refl, ap, ◌∙◌, arith}
use Rattle.std.proofs.lemmas.List.{get_or-map, length-map}
use Rattle.solve.specs.declared.candidates.Candidate.{Candidate}
use Rattle.solve.specs.declared.entries.Coded.{Coded}
use Rattle.solve.specs.Polynomials.{at}
use Rattle.solve.specs.Candidates.{pages_of, points_of, candidates_of, codes_of}

abbrev pub none : Coded
none = record { candidate = record { page = 0; point = 0 }; code = 0 }

pub length_candidates : (cs : List Coded) → length (candidates_of cs) ≡ length cs
length_candidates cs = length-map cs (λ c. c.candidate)

module _ (cs : List Coded) (i : ℕ) (b : i < length cs) where
  pub code_is : at (codes_of cs) i ≡ (get_or cs i none).code
  code_is = get_or-map (λ c. c.code) cs i none 0 b

  candidate_is : get_or (candidates_of cs) i none.candidate ≡ (get_or cs i none).candidate
  candidate_is = get_or-map (λ c. c.candidate) cs i none none.candidate b

  pub page_is : at (pages_of (candidates_of cs)) i ≡ (get_or cs i none).candidate.page
  page_is = get_or-map (λ c. c.page) (candidates_of cs) i none.candidate 0 (simp length-map b) ∙ ap (λ c. c.page) candidate_is

  pub point_is : at (points_of (candidates_of cs)) i ≡ (get_or cs i none).candidate.point
  point_is = get_or-map (λ c. c.point) (candidates_of cs) i none.candidate 0 (simp length-map b) ∙ ap (λ c. c.point) candidate_is

module _ (w : ℕ → ℕ) where
  abbrev pub coded_by : Candidate → Coded
  coded_by c = record { candidate = c; code = w c.point }

  pub candidates_coded : (cs : List Candidate) → candidates_of (map coded_by cs) ≡ cs
  candidates_coded [] = refl
  candidates_coded (c ∷ cs) = ap (λ rest. c ∷ rest) (candidates_coded cs)

  pub codes_coded : (cs : List Candidate) (i : ℕ) → i < length cs → at (codes_of (map coded_by cs)) i ≡ w (at (points_of cs) i)
  codes_coded [] i b = absurd (omega arith)
  codes_coded (c ∷ cs) zero b = refl
  codes_coded (c ∷ cs) (suc i) b = codes_coded cs i (omega arith)
