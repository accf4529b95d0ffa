-- What the rules find: the truth, where there are few enough stray copies; and one outcome, whatever is told.
use Rattle.std.specs.Prelude.{◌≡◌, Bool, true, false, cond, ◌&&◌, ◌≢◌, ◌⊎◌, ◌↔◌, ℕ, ◌<◌, ◌≤◌, eqb}
use Rattle.field.specs.Field.{Ops, Laws, Spread}
use Rattle.field.specs.Sums.{power_sum}
use Rattle.algebra.specs.Vectors.{Page, Codes, weight}
use Rattle.scheme.specs.Farm.{Table, Station, Lowest, Same, Decided, Bad, strays, top}
use Rattle.scheme.specs.Askings.{first_sums, all_sums, Plain, Outcome, over, split, filled, asks}
use Rattle.scheme.specs.Pairs.{Pair, Disjoint}
use Rattle.scheme.specs.Differences.{Gaps, Solution, Unsolved, Suspect}
use Rattle.scheme.specs.Four.{Known, Fails}
use Rattle.scheme.specs.Settling.{Settles}
use Rattle.scheme.specs.Weighing.{Weighs}
use Rattle.scheme.specs.Closing.{Splits, Reports}
use Rattle.scheme.specs.Ending.{Concludes, Comes, Fills, EndsSplit, EndsReport}

-- What is told is the table P: T are its first sums, U all sums of row 1 and of a row that is asked again, own is row 1.
pub record Told (f : Ops) (M N bound : ℕ) (P T U : Table) (own : ℕ → ℕ) : Type 0 where
  pub own_row : (n : ℕ) → Page N n → own n ≡ P 1 n
  pub first : (s j : ℕ) → Station M s → Page (first_sums M bound) j → T s j ≡ power_sum f N (P s) j
  pub own_sums : (j : ℕ) → Page (all_sums N bound) j → U 1 j ≡ power_sum f N (P 1) j
  pub second : (k j : ℕ) → Weighs f M N bound T own (asks k) → Page (all_sums N bound) j → U k j ≡ power_sum f N (P k) j

-- What the rules find of the table P is true, and they come to an end.
pub record Finds (f : Ops) (M N bound : ℕ) (P T U : Table) (own : ℕ → ℕ) : Type 0 where
  pub never_over : ¬ Comes f M N bound T U own over
  -- the rows at hand are the table
  pub rows_true : (R : Table) → Fills f M N bound T U own P R → Same M N R P
  -- a page that is split has no majority
  pub split_true : (n : ℕ) → EndsSplit f M N bound T U own P n → Page N n × (¬ Decided M P n)
  -- a report is on the table: every page has a majority, and the bad copies are the table's
  pub report_true : (R : Table) → EndsReport f M N bound T U own P R → Reports M N P × ((s n : ℕ) → Station M s → Page N n → Bad M R s n ↔ Bad M P s n)
  -- one of the two is what they end in
  pub ends : ((n : ℕ) × EndsSplit f M N bound T U own P n) ⊎ ((R : Table) × EndsReport f M N bound T U own P R)

-- In a plain farm, and in any other with at most as many stray copies as the bound says, the rules find the truth.
abbrev pub Right : Type 0
Right =
    (f : Ops) → Laws f → Spread f → (M N bound : ℕ) → 3 ≤ M → N ≤ f.places →
    (P T U : Table) (own : ℕ → ℕ) → ((s : ℕ) → Station M s → Codes f N (P s)) →
    Plain M N bound ⊎ ((strays M P N ≤ bound) × Told f M N bound P T U own) →
    Finds f M N bound P T U own

-- the same outcome, where rows count on the stations 1 .. M and the pages 1 .. N
pub data Alike (M N : ℕ) : Outcome → Outcome → Type 0 where
  both_over : Alike M N over over
  same_page : {n : ℕ} → Alike M N (split n) (split n)
  same_rows : {Q R : Table} → Same M N Q R → Alike M N (filled Q) (filled R)
  same_station : {k : ℕ} → Alike M N (asks k) (asks k)

-- Whatever is told, weighing has at most one outcome, so has settling, and so have the two one after the other.
abbrev pub One : Type 0
One =
    (f : Ops) → Laws f → Spread f → (M N bound : ℕ) → N ≤ f.places → (T U : Table) (own : ℕ → ℕ) (o p : Outcome) →
    (Weighs f M N bound T own o → Weighs f M N bound T own p → Alike M N o p)
    × (Settles f M N bound T U own o → Settles f M N bound T U own p → Alike M N o p)
    × (Concludes (Weighs f M N bound T own) (Settles f M N bound T U own) o → Concludes (Weighs f M N bound T own) (Settles f M N bound T U own) p → Alike M N o p)

-- Whatever is told, weighing has an outcome; where it asks a station, that is one of 2 .. M, and settling has an outcome; so the two one after the
-- other have one.
abbrev pub Total : Type 0
Total =
    (f : Ops) → Laws f → Spread f → (M N bound : ℕ) → 3 ≤ M → N ≤ f.places → (T U : Table) (own : ℕ → ℕ) →
    ((o : Outcome) × Weighs f M N bound T own o)
    × ((k : ℕ) → Weighs f M N bound T own (asks k) → (2 ≤ k) × (k ≤ M) × ((o : Outcome) × Settles f M N bound T U own o))
    × ((o : Outcome) × Concludes (Weighs f M N bound T own) (Settles f M N bound T U own) o)

-- The lead of a page is the lowest station of its largest group: top finds the lowest of 1 .. k at which e is greatest.
abbrev pub Leading : Type 0
Leading = (e : ℕ → ℕ) (k : ℕ) → 1 ≤ k → Lowest k (λ s. (t : ℕ) → Station k t → e t ≤ e s) (top e k)

-- Differences to be relied on that add up for any three stations in order add up in every order.
abbrev pub Additive : Type 0
Additive =
    (f : Ops) → Laws f → (M N bound : ℕ) (T : Table) (E : Gaps) (i : ℕ) → Known f M N bound T E i → ¬ Fails f M N E i →
    (s t u n : ℕ) → Station M s → Station M t → Station M u → s ≢ i → t ≢ i → u ≢ i → s ≢ t → t ≢ u → s ≢ u → Page N n →
    f.plus (E s t n) (E t u n) ≡ E s u n

-- Rows that are filled are codes, if row 1 is.
abbrev pub Coded : Type 0
Coded =
    (f : Ops) → Laws f → (M N bound : ℕ) (T U : Table) (own : ℕ → ℕ) → Codes f N own → (R : Table) →
    Weighs f M N bound T own (filled R) ⊎ Settles f M N bound T U own (filled R) →
    (s : ℕ) → Station M s → Codes f N (R s)

-- Any rows are split on a page, or there is a report on them, and never both.
abbrev pub Closes : Type 0
Closes =
    (M N : ℕ) (R : Table) →
    (((n : ℕ) × Splits M N R n) ⊎ Reports M N R) × ((n : ℕ) → Splits M N R n → ¬ Reports M N R)

-- what is answered of each pair of stations: that it has no solution, or the solution D s t
abbrev pub Answers : (f : Ops) (M N h : ℕ) (T : Table) → (ℕ → ℕ → Bool) → Gaps → Type 0
Answers f M N h T none D =
    (s t : ℕ) → Pair M s t → (none s t ≡ true → Unsolved f N h T s t) × (none s t ≡ false → Solution f N h T s t (D s t))

-- A suspect pair is known by the answers.
abbrev pub SuspectByAnswers : Type 0
SuspectByAnswers =
    (f : Ops) → Laws f → Spread f → (M N h : ℕ) → N ≤ f.places → (T : Table) (none : ℕ → ℕ → Bool) (D : Gaps) → Answers f M N h T none D →
    (s t : ℕ) → Pair M s t →
    Suspect f M N h T s t
    ↔ ((none s t ≡ true)
    ⊎ ((none s t ≡ false) × ((u v : ℕ) → Pair M u v → Disjoint s t u v → (none u v ≡ false) × (weight N (D u v) < weight N (D s t)))))

-- rows of pages that are all 0, but for page 2 of row k
abbrev pub one_other : ℕ → Table
one_other k s n = cond (eqb s k && eqb n 2) 1 0

-- rows that differ from each other on every page
abbrev pub all_other : Table
all_other s n = s

-- What Right asks of a table P, where all that is told are its own sums and its own row 1.
pub record Suits (f : Ops) (M N bound : ℕ) (P : Table) : Type 0 where
  pub stations : 3 ≤ M
  pub pages : N ≤ f.places
  pub codes : (s : ℕ) → Station M s → Codes f N (P s)
  pub told : Told f M N bound P (λ s. power_sum f N (P s)) (λ s. power_sum f N (P s)) (P 1)

-- Such tables as Right speaks of are there, in every field that has places for their pages: of four stations and of three, with as many stray copies as the
-- bound, where the farm is not plain; and of a plain farm, with more.
pub record Samples (f : Ops) : Type 0 where
  pub four : Suits f 4 3 1 (one_other 4)
  pub four_stray : strays 4 (one_other 4) 3 ≡ 1
  pub four_not_plain : ¬ Plain 4 3 1
  pub three : Suits f 3 3 1 (one_other 3)
  pub three_stray : strays 3 (one_other 3) 3 ≡ 1
  pub three_not_plain : ¬ Plain 3 3 1
  pub plain : Suits f 4 3 3 all_other
  pub plain_stray : strays 4 all_other 3 ≡ 9
  pub is_plain : Plain 4 3 3

abbrev pub Sample : Type 0
Sample = (f : Ops) → Laws f → 3 ≤ f.places → Samples f
