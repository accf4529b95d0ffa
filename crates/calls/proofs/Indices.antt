-- Where what may be asked for stands in a tally: inside of it, each index at a place of its own, each row apart from the others.
use Rattle.std.proofs.Common.{◌≡◌, ℕ, suc, ◌+◌, ◌-◌, ◌*◌, ◌<◌, ◌≤◌, ◌≢◌, ap, arith}
use native.Mathlib.Decide.{dec_le}
use Rattle.algebra.specs.Vectors.{Page}
use Rattle.refusal.specs.Rules.{Within}
use Rattle.wire.specs.declared.asked.Asked.{Asked}
use Rattle.wire.specs.declared.asked.Asked.TheVariants.{Sums, Signatures}
use Rattle.tally.specs.Rows.{row_start, tally_size}
use Rattle.tally.proofs.PlacesApart.{row_below}
use Rattle.calls.specs.Entering.{place_of}

-- i may be asked for, of N pages
abbrev pub Index : Asked → (N i : ℕ) → Type 0
Index Sums N i = Page 128 i
Index Signatures N i = Page N i

-- all of from .. to may be
abbrev pub Indices : Asked → (N from to : ℕ) → Type 0
Indices asked N from to = (i : ℕ) → Within from to i → Index asked N i

in_row : (asked : Asked) (N s i : ℕ) → Index asked N i → (row_start N s ≤ place_of asked N s i) × (place_of asked N s i < row_start N s + (N + 128))
in_row Sums N s i b = (omega arith, omega arith)
in_row Signatures N s i b = (omega arith, omega arith)

pub other_rows : (asked others : Asked) (N s t i j : ℕ) → 1 ≤ s → 1 ≤ t → s ≢ t → Index asked N i → Index others N j
    → place_of asked N s i ≢ place_of others N t j
other_rows asked others N s t i j a b apart p q e =
    let x = in_row asked N s i p in
    let y = in_row others N t j q in
    elim (dec_le s t) [
      | yes k ↦ omega (arith, row_below N s t a (omega arith), x.1, y.0)
      | no k ↦ omega (arith, row_below N t s b (omega arith), x.0, y.1)
    ]

pub other_index : (asked : Asked) (N s i j : ℕ) → 1 ≤ i → 1 ≤ j → i ≢ j → place_of asked N s i ≢ place_of asked N s j
other_index Sums N s i j a b apart e = omega arith
other_index Signatures N s i j a b apart e = omega arith

-- a row ends where the tally does or before
pub row_inside : (M N s size : ℕ) → 1 ≤ s → s ≤ M → tally_size M N ≤ size → row_start N s + (N + 128) ≤ size
row_inside M N s size lo up fits =
    let e : suc M - 1 ≡ M = omega arith in omega (arith, row_below N s (suc M) lo (omega arith), ap (λ k. k * (N + 128)) e)

pub index_inside : (asked : Asked) (M N s i size : ℕ) → 1 ≤ s → s ≤ M → tally_size M N ≤ size → Index asked N i → place_of asked N s i < size
index_inside asked M N s i size lo up fits p = omega (arith, (in_row asked N s i p).1, row_inside M N s size lo up fits)
