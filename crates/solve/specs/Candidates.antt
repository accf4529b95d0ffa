-- Candidates: the pages on which every solution has its entries; and what the sums force there.
use Rattle.std.specs.Prelude.{◌≡◌, ℕ, ◌<◌, ◌≤◌, List, map, length}
use Rattle.field.specs.Field.{Ops, power}
use Rattle.field.specs.Sums.{entry, total, power_sum}
use Rattle.field.specs.declared.limits.TheConstants.{SUM_LIMIT}
use Rattle.algebra.specs.Vectors.{Page, Codes, weight}
use Rattle.solve.specs.declared.candidates.Candidate.{Candidate}
use Rattle.solve.specs.declared.entries.Coded.{Coded}
use Rattle.solve.specs.Polynomials.{at}
use Rattle.solve.specs.Solution.{Solution}

-- the pages and the points of candidates
abbrev pub pages_of : List Candidate → List ℕ
pages_of cs = map (λ c. c.page) cs

abbrev pub points_of : List Candidate → List ℕ
points_of cs = map (λ c. c.point) cs

-- the candidates and the codes of coded candidates
abbrev pub candidates_of : List Coded → List Candidate
candidates_of cs = map (λ c. c.candidate) cs

abbrev pub codes_of : List Coded → List ℕ
codes_of cs = map (λ c. c.code) cs

-- its code times its point
abbrev pub raised : Ops → Coded → Coded
raised f c = record { candidate = c.candidate; code = f.times c.code c.candidate.point }

-- g 0 .. g (m - 1) are rising pages of 1 .. N, and x holds their points
pub record Rising (f : Ops) (N m : ℕ) (g x : ℕ → ℕ) : Type 0 where
  pub rise : (i j : ℕ) → i < j → j < m → g i < g j
  pub page : (i : ℕ) → i < m → Page N (g i)
  pub point : (i : ℕ) → i < m → x i ≡ power f f.alpha (g i)

-- the candidates are rising pages of 1 .. N, with their points
abbrev pub RisingIn : Ops → ℕ → List Candidate → Type 0
RisingIn f N cs = Rising f N (length cs) (at (pages_of cs)) (at (points_of cs))

-- n is one of g 0 .. g (m - 1)
abbrev pub Among : ℕ → (ℕ → ℕ) → ℕ → Type 0
Among m g n = (i : ℕ) × (i < m) × (g i ≡ n)

-- the candidates are the pages of 1 .. N at whose points q is 0
pub record Roots (f : Ops) (q : ℕ → ℕ) (N : ℕ) (cs : List Candidate) : Type 0 where
  pub rising : RisingIn f N cs
  pub root : (i : ℕ) → i < length cs → q (at (points_of cs) i) ≡ 0
  pub all : (n : ℕ) → Page N n → q (power f f.alpha n) ≡ 0 → Among (length cs) (at (pages_of cs)) n

-- q is 0 at the points of no more pages than there are sums
abbrev pub FewRoots : Ops → (ℕ → ℕ) → ℕ → Type 0
FewRoots f q N = (m : ℕ) (g x : ℕ → ℕ) → Rising f N m g x → ((i : ℕ) → i < m → q (x i) ≡ 0) → m ≤ SUM_LIMIT

-- e is 0 but on the pages g 0 .. g (m - 1)
abbrev pub Supported : ℕ → ℕ → (ℕ → ℕ) → (ℕ → ℕ) → Type 0
Supported N m g e = (n : ℕ) → Page N n → ¬ (e n ≡ 0) → Among m g n

-- no more candidates than values, and each solution is 0 on all other pages
pub record Covers (f : Ops) (N t : ℕ) (values : List ℕ) (cs : List Candidate) : Type 0 where
  pub rising : RisingIn f N cs
  pub known : length cs ≤ length values
  pub covers : (e : ℕ → ℕ) → Solution f N t values e → Supported N (length cs) (at (pages_of cs)) e

-- each vector that is 0 but on the candidates and has the values for its first sums has these codes there
abbrev pub Forced : Ops → ℕ → List Candidate → List ℕ → List ℕ → Type 0
Forced f N cs values codes =
    (e : ℕ → ℕ) → Codes f N e → Supported N (length cs) (at (pages_of cs)) e → ((j : ℕ) → Page (length cs) j → power_sum f N e j ≡ entry values j) →
    (i : ℕ) → i < length cs → e (at (pages_of cs) i) ≡ at codes i

-- sum j of the codes at the candidates
abbrev pub sum_at : Ops → List Candidate → List ℕ → ℕ → ℕ
sum_at f cs codes j = total f (length cs) (λ k. f.times (entry codes k) (power f (entry (points_of cs) k) j))

-- the codes at the candidates have the values for their sums
abbrev pub HasSums : Ops → List Candidate → List ℕ → List ℕ → Type 0
HasSums f cs codes values = (j : ℕ) → Page (length values) j → sum_at f cs codes j ≡ entry values j

-- and no more than t of them are not 0
abbrev pub Verified : Ops → List Candidate → List ℕ → ℕ → List ℕ → Type 0
Verified f cs codes t values = (weight (length cs) (entry codes) ≤ t) × HasSums f cs codes values
