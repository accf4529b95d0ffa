-- A farm's table, P s n the signature of page n in row s, rows and pages counted from 1: groups, stray copies, majorities.
use Rattle.std.specs.Prelude.{◌≡◌, cond, ℕ, zero, suc, ◌<◌, ◌≤◌, ◌+◌, ◌*◌, eqb, ltb}
use Rattle.algebra.specs.Vectors.{Page}

-- what each row has, by page or by sum
abbrev pub Table : Type 0
Table = ℕ → ℕ → ℕ

-- s is one of the stations 1 .. M
abbrev pub Station : ℕ → ℕ → Type 0
Station M s = Page M s

-- n is the lowest of 1 .. k of which Q holds
abbrev pub Lowest : ℕ → (ℕ → Type 0) → ℕ → Type 0
Lowest k Q n = Page k n × Q n × ((m : ℕ) → 1 ≤ m → m < n → ¬ Q m)

-- the total of e 1 .. e k
abbrev pub count : ℕ → (ℕ → ℕ) → ℕ
count zero e = 0
count (suc k) e = count k e + e (suc k)

-- s where e is greater there than at t, else t
abbrev pub higher : (ℕ → ℕ) → ℕ → ℕ → ℕ
higher e s t = cond (ltb (e t) (e s)) s t

-- the lowest of 1 .. k at which e is greatest
abbrev pub top : (ℕ → ℕ) → ℕ → ℕ
top e zero = 1
top e (suc k) = higher e (suc k) (top e k)

-- 1 where a and b agree, else 0
abbrev pub agree : ℕ → ℕ → ℕ
agree a b = cond (eqb a b) 1 0

-- 1 where a and b differ, else 0
abbrev pub differ : ℕ → ℕ → ℕ
differ a b = cond (eqb a b) 0 1

-- the rows Q and R are the same on the stations 1 .. M and the pages 1 .. N
abbrev pub Same : ℕ → ℕ → Table → Table → Type 0
Same M N Q R = (s n : ℕ) → Station M s → Page N n → Q s n ≡ R s n

module _ (M : ℕ) (P : Table) where
  -- how many rows hold the signature v on page n
  abbrev pub holders : ℕ → ℕ → ℕ
  holders n v = count M (λ s. agree (P s n) v)

  -- v is held by more than half of the rows on page n
  abbrev pub Majority : ℕ → ℕ → Type 0
  Majority n v = M < 2 * holders n v

  -- some signature of page n is held by more than half
  abbrev pub Decided : ℕ → Type 0
  Decided n = (v : ℕ) × Majority n v

  -- the copy of page n in row s is bad: its signature is not held by more than half
  abbrev pub Bad : ℕ → ℕ → Type 0
  Bad s n = ¬ Majority n (P s n)

  -- the size of the group of row s on page n
  abbrev pub group : ℕ → ℕ → ℕ
  group n s = holders n (P s n)

  -- the lowest station of the largest group of page n
  abbrev pub lead : ℕ → ℕ
  lead n = top (group n) M

  -- 1 where the copy of page n in row s is outside the page's largest group
  abbrev pub stray : ℕ → ℕ → ℕ
  stray s n = differ (P s n) (P (lead n) n)

  -- how many stray copies there are in N pages
  abbrev pub strays : ℕ → ℕ
  strays N = count M (λ s. count N (stray s))
