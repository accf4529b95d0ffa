-- The cards of a farm are rows of codes, each of as many pages.
use Rattle.std.proofs.Common.{◌≡◌, ℕ, suc, ◌-◌, ◌*◌, ◌≤◌, List, length, drop, ◌∙◌, mul-le-mul_right, suc-mul, arith}
use Rattle.std.proofs.lemmas.List.{length-map, length-drop, length-take-le}
use Rattle.field.specs.Field.{Ops, Laws}
use Rattle.scheme.specs.Farm.{Station}
use Rattle.station.specs.Codes.{card_codes}
use Rattle.calls.specs.Steady.{FarmHolds}
use Rattle.desk.specs.Copies.{words_of, cards}

module _ (f : Ops) (M N : ℕ) (words : List ℕ) (whole : length words ≡ M * N) where
  pub card_size : (s : ℕ) → Station M s → length (cards f N words s) ≡ N
  card_size s station =
      let rows : suc (s - 1) * N ≤ M * N = mul-le-mul_right N (let le : suc (s - 1) ≤ M = omega arith in le) in
      length-map (words_of N words s) _
      ∙ length-take-le N (drop ((s - 1) * N) words) (omega (arith, rows, suc-mul (s - 1) N, length-drop ((s - 1) * N) words, whole))

  pub cards_held : Laws f → FarmHolds f M N (cards f N words)
  cards_held laws = record {
    pages = card_size;
    codes = λ s station n page. card_codes laws (words_of N words s) n;
  }
