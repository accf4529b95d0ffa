-- Iterators over a range a..=b, said of its numbers: what `find`, `any` and `all` come to.
use Rattle.std.proofs.Common.{◌≡◌, ℕ, zero, suc, ◌+◌, ◌-◌, ◌<◌, ◌≤◌, Bool, true, false, List, length, Some, None, Option, refl, sym, ap, ◌∙◌, subst, arith}
use Rattle.std.specs.Bool.{MatchBool, ⊤}
use Rattle.std.specs.Option.{MatchOption}
use Rattle.std.specs.Fn.{Called, CalledAt}
use Rattle.std.specs.List.{range_with_len, FoldsTo, AllWithin, HoldsAt}
use Rattle.std.specs.Iterator.{AlwaysYields, YieldsThen}
use Rattle.std.specs.Range.{range_inclusive_len}
use Rattle.std.specs.declared.ops.RangeInclusive.{RangeInclusive}
use Rattle.std.proofs.iter.runs.Sources.{nat_range_inclusive_steps}
use Rattle.std.proofs.lemmas.Iterator.{YieldsList, first_from_find, cases_from_any, cases_from_all}
use Rattle.std.proofs.lemmas.List.FromFn.{length-range_with_len, get_or-range_with_len}
use denote.Ref.{Bor}
use denote.Param.Members.{Mut}

abbrev left : RangeInclusive ℕ → ℕ
left s = range_inclusive_len (λ x y. y - x) s.start s.end s.exhausted

-- what is left after a turn, and where it starts
next : (b : Bool) (m n x y z : ℕ) → range_inclusive_len (λ x y. y - x) y z b + 1 ≡ m → m ≡ suc n → (b ≡ false → y ≡ x + 1) → 0 < n → y ≡ x + 1
next true m n x y z e f h p = omega arith
next false m n x y z e f h p = h refl

gives : (n a : ℕ) (s : RangeInclusive ℕ) → left s ≡ n → (0 < n → s.start ≡ a) → AlwaysYields nat_range_inclusive_steps (λ x. x) s (range_with_len a n)
gives zero a s is first = λ x j e. omega (arith, e.1.1)
gives (suc n) a s is first = (
  λ j e. omega (arith, e.1.0),
  λ x j e.
      let start = first (omega arith) in
      (e.1.0 ∙ start, gives n (a + 1) j (omega (arith, e.1.1)) (next j.exhausted (left s) n a j.start j.end e.1.1 is (λ q. e.1.2 q ∙ ap (λ k. k + 1) start))),
)

abbrev size : ℕ → ℕ → ℕ
size a b = b + 1 - a

-- a..=b gives a, a + 1, .., b
pub yields_from : {s : RangeInclusive ℕ} (a b : ℕ) → s.start ≡ a → s.end ≡ b → s.exhausted ≡ false → YieldsList nat_range_inclusive_steps (λ x. x) s (range_with_len a (size a b))
yields_from {s} a b start end fresh = record { runs = gives (size a b) a s (ap (range_inclusive_len (λ x y. y - x) s.start s.end) fresh ∙ omega arith) (λ p. start) }

pub yields_1_to : {s : RangeInclusive ℕ} (n : ℕ) → s.start ≡ 1 → s.end ≡ n → s.exhausted ≡ false → YieldsList nat_range_inclusive_steps (λ x. x) s (range_with_len 1 n)
yields_1_to {s} n one last fresh =
    subst (λ m. YieldsList nat_range_inclusive_steps (λ x. x) s (range_with_len 1 m)) (let e : size 1 n ≡ n = omega arith in e) (yields_from 1 n one last fresh)

-- k is one of a .. b
abbrev pub In : ℕ → ℕ → ℕ → Type 0
In a b k = (a ≤ k) × (k ≤ b)

module _ (a b : ℕ) where
  abbrev all : List ℕ
  all = range_with_len a (size a b)

  long : length all ≡ size a b
  long = length-range_with_len a (size a b)

  -- the numbers before place n of the range are a .. a + n - 1
  below : (P : ℕ → Type 0) (n : ℕ) → n ≤ size a b → AllWithin P all 0 n → (k : ℕ) → a ≤ k → k < a + n → P k
  below P n few each k from to =
      subst P (get_or-range_with_len a (size a b) (k - a) 0 (omega arith) ∙ (let e : a + (k - a) ≡ k = omega arith in e)) (each (k - a) 0 (omega arith) (omega arith))

  held : (P : ℕ → Type 0) → (k : ℕ) × (k < length all) × HoldsAt P all k → (k : ℕ) × In a b k × P k
  held P h =
      let few : h.0 < size a b = omega (arith, h.1, long) in
      (a + h.0, (omega arith, omega arith), subst P (get_or-range_with_len a (size a b) h.0 0 few) (h.2 0))

  every : (P : ℕ → Type 0) → AllWithin P all 0 (length all) → (k : ℕ) → In a b k → P k
  every P each k page = below P (length all) (omega (arith, long)) each k page.0 (omega (arith, long))

module _ {F : Type 0} {s : RangeInclusive ℕ} (u : RangeInclusive ℕ) (f : F) (a b : ℕ) (Yes No : ℕ → Type 0) (start : s.start ≡ a) (end : s.end ≡ b) (fresh : s.exhausted ≡ false) where
  -- `find` gives the lowest of a .. b that passes
  pub first_from : {g : Mut F (Bor ℕ × Unit {0}) Bool} (r : Option ℕ)
      → (xs : List ℕ) × (j : F) × YieldsThen nat_range_inclusive_steps s xs r u × FoldsTo (λ p x q. CalledAt g p x false q) f xs j × MatchOption r ⊤ (λ x. (h : F) × CalledAt g j x true h)
      → ((x : ℕ) (q : F) → CalledAt g f x true q → Yes x) → ((x : ℕ) (q : F) → CalledAt g f x false q → (q ≡ f) × No x)
      → MatchOption r ((k : ℕ) → In a b k → No k) (λ k. In a b k × Yes k × ((i : ℕ) → a ≤ i → i < k → No i))
  first_from r ran passes fails = told r (first_from_find u f r Yes No ran (yields_from a b start end fresh) passes fails)
    where
      told : (o : Option ℕ) → MatchOption o (AllWithin No (all a b) 0 (length (all a b)))
          (λ x. Yes x × (i : ℕ) × (i < length (all a b)) × HoldsAt (λ y. y ≡ x) (all a b) i × AllWithin No (all a b) 0 i)
          → MatchOption o ((k : ℕ) → In a b k → No k) (λ k. In a b k × Yes k × ((i : ℕ) → a ≤ i → i < k → No i))
      told None h = every a b No h
      told (Some x) h =
          let few : h.1 < size a b = omega (arith, h.2, long a b) in
          let is : x ≡ a + h.1 = sym (h.3 0) ∙ get_or-range_with_len a (size a b) h.1 0 few in
          ((omega arith, omega arith), h.0, λ i from to. below a b No h.1 (omega arith) h.4 i from (omega arith))

  -- `any` tells whether some of a .. b passes
  pub some_from : {g : Mut F (ℕ × Unit {0}) Bool} (r : Bool)
      → (xs : List ℕ) × (o : Option ℕ) × (j : F) × YieldsThen nat_range_inclusive_steps s xs o u × FoldsTo (λ p x q. Called g p (x, tt) false q) f xs j
      × MatchOption o (r ≡ false) (λ x. (r ≡ true) × ((h : F) × Called g j (x, tt) true h))
      → ((x : ℕ) (q : F) → Called g f (x, tt) true q → Yes x) → ((x : ℕ) (q : F) → Called g f (x, tt) false q → (q ≡ f) × No x)
      → MatchBool r ((k : ℕ) × In a b k × Yes k) ((k : ℕ) → In a b k → No k)
  some_from r ran passes fails = told r (cases_from_any u f r Yes No ran (yields_from a b start end fresh) passes fails)
    where
      told : (t : Bool) → MatchBool t ((k : ℕ) × (k < length (all a b)) × HoldsAt Yes (all a b) k) (AllWithin No (all a b) 0 (length (all a b)))
          → MatchBool t ((k : ℕ) × In a b k × Yes k) ((k : ℕ) → In a b k → No k)
      told true h = held a b Yes h
      told false h = every a b No h

  -- `all` tells whether each of a .. b passes
  pub all_from : {g : Mut F (ℕ × Unit {0}) Bool} (r : Bool)
      → (xs : List ℕ) × (o : Option ℕ) × (j : F) × YieldsThen nat_range_inclusive_steps s xs o u × FoldsTo (λ p x q. Called g p (x, tt) true q) f xs j
      × MatchOption o (r ≡ true) (λ x. (r ≡ false) × ((h : F) × Called g j (x, tt) false h))
      → ((x : ℕ) (q : F) → Called g f (x, tt) true q → (q ≡ f) × Yes x) → ((x : ℕ) (q : F) → Called g f (x, tt) false q → No x)
      → MatchBool r ((k : ℕ) → In a b k → Yes k) ((k : ℕ) × In a b k × No k)
  all_from r ran passes fails = told r (cases_from_all u f r Yes No ran (yields_from a b start end fresh) passes fails)
    where
      told : (t : Bool) → MatchBool t (AllWithin Yes (all a b) 0 (length (all a b))) ((k : ℕ) × (k < length (all a b)) × HoldsAt No (all a b) k)
          → MatchBool t ((k : ℕ) → In a b k → Yes k) ((k : ℕ) × In a b k × No k)
      told true h = every a b Yes h
      told false h = held a b No h
