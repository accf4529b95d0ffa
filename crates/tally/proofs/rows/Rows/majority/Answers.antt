use Rattle.std.proofs.Common.{rules, MatchOption, ℕ, ◌<◌, ◌≤◌, Option, subst, sym}
use Rattle.algebra.proofs.Ranges.{first_from, In}
use Rattle.scheme.specs.Farm.{Majority, Decided, Bad}
use Rattle.tally.specs.Rows.{signature_in}
use Rattle.tally.proofs.Halves.{none_decided}
use Rattle.tally.proofs.rows.Rows.majority.Goals as goal

pub returns-in_err-station : goal.returns-in_err-station
returns-in_err-station c =
    let M = c.args.self.now.stations in
    let R = signature_in c.args.self.now.words.now c.args.self.now.pages in
    let n = c.args.page in
    let Yes : ℕ → Type 0 = λ s. ¬ Bad M R s n in
    let No : ℕ → Type 0 = λ s. Bad M R s n in
    let Said : Option ℕ → Type 0 = λ o. MatchOption o ((k : ℕ) → In 1 M k → No k) (λ k. In 1 M k × Yes k × ((i : ℕ) → 1 ≤ i → i < k → No i)) in
    let found : Said c.find.result = first_from _ _ 1 M Yes No c.new.ensures.start c.new.ensures.end c.new.ensures.exhausted c.find.result c.find.ensures.ran (λ x q p. search rules) (λ x q p. search rules) in
    let bad = subst Said c.in_err-station.was found in
    subst (λ (o : Option ℕ). MatchOption o (¬ Decided M R n) (Majority M R n)) (sym c.from_residual.ensures) (none_decided M R n bad)
