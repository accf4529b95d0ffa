-- What is entered into the rows of a tally: the shop's own copy when a check is opened, and the values of a reply.
use Rattle.std.specs.Prelude.{◌≡◌, ℕ, ◌+◌, ◌-◌, ◌<◌, ◌≤◌, List, length, ◌≢◌, slice_index}
use Rattle.field.specs.Field.{Ops}
use Rattle.field.specs.Sums.{entry, power_sum}
use Rattle.algebra.specs.Vectors.{Page}
use Rattle.wire.specs.Words.{value_of}
use Rattle.wire.specs.declared.asked.Asked.{Asked}
use Rattle.wire.specs.declared.asked.Asked.TheVariants.{Sums, Signatures}
use Rattle.wire.specs.declared.request.Request.{Request}
use Rattle.tally.specs.Rows.{signature_place, sum_place, signature_in, sum_in, tally_size}

-- where what is asked for under an index stands in the row of station s
abbrev pub place_of : Asked → (N s index : ℕ) → ℕ
place_of Sums N s j = sum_place N s j
place_of Signatures N s n = signature_place N s n

-- after is before, but that the values of the indices from .. to, without to, stand at their places, as far as before reaches
pub record Placed (place value : ℕ → ℕ) (from to : ℕ) (before after : List ℕ) : Type 0 where
  pub size : length after ≡ length before
  pub each : (k : ℕ) → from ≤ k → k < to → place k < length before → slice_index after (place k) ≡ value k
  pub rest : (i : ℕ) → ((k : ℕ) → from ≤ k → k < to → i ≢ place k) → slice_index after i ≡ slice_index before i

-- M rows of N pages are clear, but that row 1 has these signatures and their sums 1 .. J; past the rows nothing changed
pub record RowsOpened (f : Ops) (row : List ℕ) (M N J : ℕ) (before after : List ℕ) : Type 0 where
  pub size : length after ≡ length before
  pub signatures : (n : ℕ) → Page N n → signature_in after N 1 n ≡ entry row n
  pub sums : (j : ℕ) → Page J j → sum_in after N 1 j ≡ power_sum f N (entry row) j
  pub clear : (i : ℕ) → i < tally_size M N → ((n : ℕ) → Page N n → i ≢ signature_place N 1 n) → ((j : ℕ) → Page J j → i ≢ sum_place N 1 j)
      → slice_index after i ≡ 0
  pub beyond : (i : ℕ) → tally_size M N ≤ i → slice_index after i ≡ slice_index before i

-- the values of a reply stand in the row of its station, each under its index; nothing else changed
abbrev pub Entered : (N : ℕ) → Request → (values before after : List ℕ) → Type 0
Entered N q values before after =
    Placed (place_of q.asked N q.station) (λ index. value_of (slice_index values (index - q.first))) q.first (q.first + length values) before after
