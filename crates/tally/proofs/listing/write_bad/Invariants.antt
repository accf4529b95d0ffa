use Rattle.std.proofs.Common.{◌≡◌, ◌++◌, length, drop}
use Rattle.tally.specs.Listing.{bad_pages}
use Rattle.tally.specs.Rows.{signature_in}
use Rattle.tally.proofs.listing.write_bad.Given as goal

abbrev pub invariant-loop-before : goal.invariant-loop-before
invariant-loop-before l =
    (l.count ≡ length (bad_pages l.rows.stations (signature_in l.rows.words.now l.rows.pages) l.station l.before))
    × (l.out ≡ bad_pages l.rows.stations (signature_in l.rows.words.now l.rows.pages) l.station l.before ++ drop l.count l.initial.out)
