-- A whole reply with the request's header is accepted, and its rest are the values asked for.
use Rattle.std.proofs.Common.{◌≡◌, ℕ, ◌+◌, ◌<◌, ◌≤◌, List, ◌++◌, length, get_or, drop, sym, ap, ◌∙◌, inl, inr, arith}
use Rattle.std.proofs.lemmas.List.{length-drop}
use Rattle.field.specs.Field.{Ops}
use Rattle.field.specs.Sums.{entry}
use Rattle.wire.specs.Words.{kind_of, value_of}
use Rattle.wire.specs.Requests.{request_words, values_due}
use Rattle.wire.specs.Reading.{WellFormed, GarbledAt, Whole, ForeignAt, Reply}
use Rattle.wire.specs.declared.request.Request.{Request}
use Rattle.wire.proofs.Header.{header, header_rest, header_entry, rest_entry}

pub whole_clear : {limit values : ℕ} {words : List ℕ} → Whole limit values words → (k : ℕ) → 1 ≤ k → GarbledAt limit values words k → ⊥
whole_clear w k from (inl (due, inl missing)) = omega (arith, w.count)
whole_clear w k from (inl (due, inr wrong)) = wrong (w.each k from (omega (arith, w.count)))
whole_clear w k from (inr (past, there)) = omega (arith, w.count)

pub value_word : (limit k w : ℕ) → WellFormed limit (k + 5) w → (kind_of w ≡ 6) × (value_of w < limit)
value_word limit k w h = (omega arith, omega arith)

module _ (f : Ops) (q : Request) (words : List ℕ) (w : Whole f.size (values_due q) words) (same : header words ≡ request_words q) where
  pub none_foreign : (k : ℕ) → 1 ≤ k → ForeignAt q words k → ⊥
  none_foreign k from (to, other) = other (sym (header_entry words k from to) ∙ ap (λ xs. entry xs k) same)

  at_value : (k : ℕ) → k < length (drop 4 words) → (kind_of (get_or (drop 4 words) k 0) ≡ 6) × (value_of (get_or (drop 4 words) k 0) < f.size)
  at_value k h =
      let there : k + 5 ≤ length words = omega (arith, length-drop 4 words) in
      rw (rest_entry words k) (value_word f.size k (entry words (k + 5)) (w.each (k + 5) (omega arith) there))

  pub reply : Reply f q words (drop 4 words)
  reply = record {
    parts = header_rest words (omega (arith, w.count)) ∙ ap (λ xs. xs ++ drop 4 words) same;
    count = length-drop 4 words ∙ (omega (arith, w.count));
    kinds = λ k h. (at_value k h).0;
    codes = λ k h. (at_value k h).1;
  }
