-- What a lent station means: what its kind means.
use Rattle.std.specs.Prelude.{ℕ, List}
use Rattle.commands.specs.declared.holding.Lent.{Lent}
use Rattle.commands.specs.declared.holding.Lent.TheVariants as lent

abbrev pub lent_row : {C S : Type 0} → (card_row : C → List ℕ) → (shelf_row : S → List ℕ) → Lent C S → List ℕ
lent_row card_row shelf_row (lent.Card card) = card_row card
lent_row card_row shelf_row (lent.Shelf shelf) = shelf_row shelf
