use Rattle.std.proofs.Common.{sym, refl, arith}
use Rattle.scheme.specs.Farm.{Table}
use Rattle.tally.specs.Listing.{bad_pages}
use Rattle.tally.specs.Rows.{signature_in}
use Rattle.tally.proofs.BadPages.{bad_lists}
use Rattle.tally.proofs.listing.list_bad.Goals as goal

pub returns-then-out-count : goal.returns-then-out-count
returns-then-out-count c =
    let M = c.args.stations in
    let R : Table = signature_in c.args.tally.now c.args.pages in (
      refl,
      record {
        listed = bad_pages M R c.args.station c.args.pages;
        lists = bad_lists M R c.args.station c.args.pages;
        short = omega (arith, c.count_bad-count.ensures, c.if-out-count.true);
        same = refl;
      },
    )

pub returns : goal.returns
returns c =
    let M = c.args.stations in
    let R : Table = signature_in c.args.tally.now c.args.pages in
    let pages = bad_pages M R c.args.station c.args.pages in
    record {
      listed = pages;
      lists = bad_lists M R c.args.station c.args.pages;
      size = sym c.count_bad-count.ensures;
      room = c.if-out-count.false;
      written = cc;
    }
