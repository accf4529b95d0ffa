use Rattle.std.proofs.Common.{◌+◌, ◌-◌, [], Some, Ok, length, ap, subst, sym, arith}
use Rattle.std.proofs.lemmas.List.{length-take}
use Rattle.calls.specs.Listing.{Listing}
use Rattle.desk.specs.Listings.{Listings, none_listed}
use Rattle.desk.proofs.ListsShort.{list_ok}
use Rattle.desk.proofs.LinesWritten.{listings_turn}
use Rattle.desk.proofs.report.put_report.Goals as goal

pub loop-station-init : goal.loop-station-init
loop-station-init c = record {
  position = omega arith;
  says = ([], subst (Listings c.args.check.now.book.terms c.args.tally.now 0 []) (sym c.requires.none) none_listed);
  short = omega (arith, ap length c.requires.none);
}

pub unwrap-count-requires : goal.unwrap-count-requires
unwrap-count-requires c =
    let t = c.args.check.now.book.terms in
    list_ok t c.loop-station.station c.args.tally.now c.loop-station.pages c.list.new.out c.list.result
    (rw c.requires.stations c.requires.room) (omega (arith, c.requires.stations)) (omega (arith, c.loop-station-test.array_long, c.args.check.now.narrow.1))
    (subst (λ v. Listing t (Some v) c.loop-station.station c.args.tally.now c.loop-station.pages c.list.result c.list.new.out) c.requires.report c.list.ensures.lists)

pub loop-station-preserved : goal.loop-station-preserved
loop-station-preserved c =
    let t = c.args.check.now.book.terms in
    let s = c.loop-station.station in
    let before = c.loop-station.invariant.says in
    let listing = subst (λ v. Listing t (Some v) s c.args.tally.now c.loop-station.pages (Ok c.unwrap-count.result) c.list.new.out) c.requires.report
    (rw c.unwrap-count.ensures at c.list.ensures.lists) in
    record {
      position = omega arith;
      says =
          listings_turn t c.args.tally.now s (s + 1 - 1) (omega arith) (omega arith) before.0 c.loop-station.text c.loop-station.pages c.list.new.out c.unwrap-count.result
          before.1 listing c.put_pages.new.text c.put_pages.ensures.lines;
      short = omega (arith, c.put_pages.ensures.short, listing.1.room, c.loop-station-test.array_long, length-take c.unwrap-count.result c.list.new.out);
    }

pub returns-2-clause-says : goal.returns-2-clause-says
returns-2-clause-says c =
    let t = c.args.check.now.book.terms in
    let s = c.loop-station.station in
    let before = c.loop-station.invariant.says in
    let listing = subst (λ v. Listing t (Some v) s c.args.tally.now c.loop-station.pages (Ok c.unwrap-count.result) c.list.new.out) c.requires.report
    (rw c.unwrap-count.ensures at c.list.ensures.lists) in
    listings_turn t c.args.tally.now s c.args.stations (omega arith) (omega arith) before.0 c.loop-station.text c.loop-station.pages c.list.new.out c.unwrap-count.result
    before.1 listing c.put_pages.new.text c.put_pages.ensures.lines
