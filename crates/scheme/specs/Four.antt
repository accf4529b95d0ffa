-- Four stations and more, after the first asking: which differences are to be relied on, and which station is in doubt.
use Rattle.std.specs.Prelude.{◌≡◌, false, cond, ◌&&◌, ◌≢◌, ℕ, ◌<◌, ◌≤◌, ◌/◌, eqb}
use Rattle.field.specs.Field.{Ops}
use Rattle.field.specs.Sums.{power_sum}
use Rattle.algebra.specs.Vectors.{Page, Solves}
use Rattle.scheme.specs.Farm.{Table, Lowest, count, top, agree}
use Rattle.scheme.specs.Askings.{all_sums}
use Rattle.scheme.specs.Pairs.{among, Empty, Triangle, InAll}
use Rattle.scheme.specs.Differences.{Gaps, gap, Suspect, Differences}

-- D, but between x, y and z by way of m
abbrev pub by_way : Ops → (x y z m : ℕ) → Gaps → Gaps
by_way f x y z m D s t n = cond (among x y z s && among x y z t) (f.minus (D s m n) (D t m n)) (D s t n)

-- The differences E are to be relied on, but for those of station i; i is 0 where there is no such station.
pub data Known (f : Ops) (M N bound : ℕ) (T : Table) : Gaps → ℕ → Type 0 where
  -- no pair is suspect
  none_suspect : {D : Gaps} → Differences f M N bound T D → Empty M (Suspect f M N bound T) → Known f M N bound T D 0
  -- the pairs of three stations are: m is the lowest station outside them
  three_suspect : {D : Gaps} (x y z m : ℕ) → Differences f M N bound T D → Triangle M (Suspect f M N bound T) x y z
      → Lowest M (λ s. among x y z s ≡ false) m → Known f M N bound T (by_way f x y z m D) 0
  -- else i is the lowest station in all suspect pairs
  one_suspect : {D : Gaps} {i : ℕ} → Differences f M N bound T D → ¬ Empty M (Suspect f M N bound T)
      → Lowest M (InAll M (Suspect f M N bound T)) i → Known f M N bound T D i

-- e, and 0 at i
abbrev pub except : ℕ → (ℕ → ℕ) → ℕ → ℕ
except i e s = cond (eqb s i) 0 (e s)

module _ (M : ℕ) (E : Gaps) (i : ℕ) where
  -- the size of the group of s on page n, among the stations other than i
  abbrev pub group_of_others : ℕ → ℕ → ℕ
  group_of_others n = except i (λ s. count M (except i (λ t. agree (E t s n) 0)))

  -- the lowest station of their largest group
  abbrev pub lead_of_others : ℕ → ℕ
  lead_of_others n = top (group_of_others n) M

  -- their largest group is below half of the stations
  abbrev pub Scattered : ℕ → Type 0
  Scattered n = group_of_others n (lead_of_others n) < M / 2

-- three stations other than i, in order, and a page on which their differences do not add up: in any other order they fail or add up alike
pub record Fails (f : Ops) (M N : ℕ) (E : Gaps) (i : ℕ) : Type 0 where
  pub s : ℕ
  pub t : ℕ
  pub u : ℕ
  pub n : ℕ
  pub stations : (1 ≤ s) × (s < t) × (t < u) × (u ≤ M)
  pub others : (s ≢ i) × (t ≢ i) × (u ≢ i)
  pub page : Page N n
  pub wrong : f.plus (E s t n) (E t u n) ≢ E s u n

-- i is in doubt: the others add up, and on no page are they scattered
pub record Doubted (f : Ops) (M N bound : ℕ) (T : Table) (E : Gaps) (i : ℕ) : Type 0 where
  pub known : Known f M N bound T E i
  pub station : 1 ≤ i
  pub adds : ¬ Fails f M N E i
  pub gathered : (n : ℕ) → Page N n → ¬ Scattered M E i n

-- who is asked again where i is in doubt
abbrev pub asked : ℕ → ℕ
asked i = cond (eqb i 1) 2 i

-- with whom i is then compared
abbrev pub beside : ℕ → ℕ
beside i = cond (eqb i 1) 2 1

module _ (f : Ops) (M N bound : ℕ) (T : Table) (E : Gaps) (i : ℕ) where
  -- sum j of i minus sum j of the one beside, plus that of the one beside minus the leads of the others
  abbrev pub sum_from_leads : ℕ → ℕ
  sum_from_leads j = f.plus (gap f T i (beside i) j) (power_sum f N (λ n. E (beside i) (lead_of_others M E i n) n) j)

  -- e is the difference of i from the leads of the others
  abbrev pub FromLeads : (ℕ → ℕ) → Type 0
  FromLeads e = Solves f N bound (all_sums N bound) sum_from_leads e

-- The difference of rows 1 and t on page n, where e is that of i from g, a station of the others: by way of g where i is 1 or t.
abbrev pub gap_from_first : Ops → Gaps → (i : ℕ) → (e : ℕ → ℕ) → (g t n : ℕ) → ℕ
gap_from_first f E i e g t n = cond (eqb i 1) (f.plus (e n) (E g t n)) (cond (eqb t i) (f.minus (E 1 g n) (e n)) (E 1 t n))

-- the rows by their differences from row 1, which stays as it is
abbrev pub row_from_first : Ops → (own : ℕ → ℕ) → Gaps → Table
row_from_first f own E t n = cond (eqb t 1) (own n) (f.minus (own n) (E 1 t n))

-- the rows, where e is the difference of i from the leads of the others
abbrev pub row_from_leads : Ops → (M : ℕ) → (own : ℕ → ℕ) → Gaps → (i : ℕ) → (e : ℕ → ℕ) → Table
row_from_leads f M own E i e t n = cond (eqb t 1) (own n) (f.minus (own n) (gap_from_first f E i e (lead_of_others M E i n) t n))
