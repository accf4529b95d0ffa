-- At every moment of a run whose calls share one tally, its rows are as told.
use Rattle.std.proofs.Common.{◌≡◌, ℕ, ◌-◌, ◌≤◌, ◌≢◌, List, [], ◌∷◌, length, drop, get_or, Ok, Option, refl, sym, ap, ◌∙◌, subst, subst₂, inl, inr, arith}
use native.Mathlib.Decide.{ℕ_discrete}
use Rattle.field.specs.Field.{Ops}
use Rattle.field.specs.Sums.{entry, power_sum}
use Rattle.algebra.specs.Vectors.{Page}
use Rattle.refusal.specs.Rules.{Within}
use Rattle.wire.specs.Words.{value_of}
use Rattle.wire.specs.Reading.{Reply}
use Rattle.wire.specs.declared.asked.Asked.{Asked}
use Rattle.wire.specs.declared.asked.Asked.TheVariants.{Sums, Signatures}
use Rattle.scheme.specs.Farm.{Table}
use Rattle.scheme.specs.Askings.{all_sums}
use Rattle.tally.specs.Rows.{sum_in, signature_in, signature_place, tally_size}
use Rattle.calls.specs.declared.standing.Standing.{Standing}
use Rattle.calls.specs.declared.terms.Terms.{Terms}
use Rattle.calls.specs.declared.question.Question.{Question}
use Rattle.calls.specs.declared.slip.Slip.{Slip}
use Rattle.calls.specs.declared.book.Book.{Book}
use Rattle.calls.specs.Standings.{standing_of}
use Rattle.calls.specs.Entering.{place_of, Entered, RowsOpened}
use Rattle.calls.specs.Opening.{Opens}
use Rattle.calls.specs.Runs.{Stage, Call, take, AsksOnly}
use Rattle.calls.specs.Replies.{Replied, AsTold, Unfilled}
use Rattle.calls.specs.States.{AskedAt}
use Rattle.calls.proofs.Cleared.{open_cleared}
use Rattle.calls.proofs.Shapes.{StageAsks}
use Rattle.calls.proofs.RepliesIn.{reply_in}
use Rattle.calls.proofs.Indices.{Index, other_rows, other_index, index_inside}
use Rattle.calls.proofs.IndicesAsked.{request_indices}
use Rattle.calls.proofs.Heard.{More, Heard, due_index}

-- the tally has room, and its rows are as told
pub record Stands (f : Ops) (own : List ℕ) (t : Terms) (ks : List Call) (tally : List ℕ) : Type 0 where
  pub room : tally_size t.farm.stations t.farm.pages ≤ length tally
  pub told : AsTold f own t ks (sum_in tally t.farm.pages) (signature_in tally t.farm.pages)

module _ (f : Ops) (own : List ℕ) (t : Terms) where
  -- what is told by calls is told by fewer of them
  pub fewer_told : (ks more : List Call) (T P : Table) → More ks more → AsTold f own t more T P → AsTold f own t ks T P
  fewer_told ks more T P up h = record {
    own_row = h.own_row;
    own_sums = h.own_sums;
    sums = λ s j v r. h.sums s j v (up Sums s j v r);
    signatures = λ s n v r. h.signatures s n v (up Signatures s n v r);
  }

  -- nothing is replied
  pub same_stands : (ks more : List Call) (tally : List ℕ) → More more ks → Stands f own t ks tally → Stands f own t more tally
  same_stands ks more tally down h =
      record { room = h.room; told = fewer_told more ks (sum_in tally t.farm.pages) (signature_in tally t.farm.pages) down h.told }

-- a value replied stands at its place
at_place : (f : Ops) (own : List ℕ) (t : Terms) (ks : List Call) (tally : List ℕ) → Stands f own t ks tally → (a : Asked) (s i v : ℕ) → Replied ks a s i v
    → get_or tally (place_of a t.farm.pages s i) 0 ≡ v
at_place f own t ks tally h Sums s i v r = h.told.sums s i v r
at_place f own t ks tally h Signatures s i v r = h.told.signatures s i v r

same_row_apart : (a b : Asked) (N s i k : ℕ) → Index a N i → Index b N k → (a ≡ b → i ≢ k) → place_of a N s i ≢ place_of b N s k
same_row_apart Sums Sums N s i k p q apart e = other_index Sums N s i k p.0 q.0 (apart refl) e
same_row_apart Signatures Signatures N s i k p q apart e = other_index Signatures N s i k p.0 q.0 (apart refl) e
same_row_apart Sums Signatures N s i k p q apart e = omega arith
same_row_apart Signatures Sums N s i k p q apart e = omega arith

-- places of other stations, other kinds or other indices are apart
pub places_apart : (a b : Asked) (N s t i k : ℕ) → 1 ≤ s → 1 ≤ t → Index a N i → Index b N k → (s ≡ t → a ≡ b → i ≢ k) → place_of a N s i ≢ place_of b N t k
places_apart a b N s t i k lo lo' p q apart = elim (ℕ_discrete s t) [
  | yes e ↦ subst (λ t. place_of a N s i ≢ place_of b N t k) e (same_row_apart a b N s i k p q (apart e))
  | no d ↦ other_rows a b N s t i k lo lo' d p q
]

pub opened_stands : (f : Ops) (own : List ℕ) (number M N bound : ℕ) (before after : List ℕ) (b : Book) → Opens f own number M N bound before b after
    → Stands f own b.terms [] after
opened_stands f own number M N bound before after b o = record {
  room = subst₂ (λ M N. tally_size M N ≤ length after) (sym o.terms.1) (sym o.terms.2) (omega (arith, (open_cleared f number M N bound (length own) (length before) o.accepted).room_for, o.rows.size));
  told = record {
    own_row = subst (λ N. (n : ℕ) → Page N n → signature_in after N 1 n ≡ entry own n) (sym o.terms.2) o.rows.signatures;
    own_sums = subst₂ (λ N bound. (j : ℕ) → Page (all_sums N bound) j → sum_in after N 1 j ≡ power_sum f N (entry own) j) (sym o.terms.2) (sym o.terms.3) o.rows.sums;
    sums = λ s j v r. absurd r;
    signatures = λ s n v r. absurd r;
  };
}

opened_clear : (f : Ops) (own : List ℕ) (M N J : ℕ) (before after : List ℕ) → RowsOpened f own M N J before after → J ≤ 128 → (s n : ℕ) → Within 2 M s → Page N n
    → signature_in after N s n ≡ 0
opened_clear f own M N J before after o few s n w page =
    o.clear (signature_place N s n) (index_inside Signatures M N s n (tally_size M N) (omega (arith, w)) w.1 (omega arith) page)
    (λ m p. places_apart Signatures Signatures N s 1 n m (omega (arith, w)) (omega arith) page p (λ is. absurd (omega (arith, is, w))))
    (λ j p. places_apart Signatures Sums N s 1 n j (omega (arith, w)) (omega arith) page (omega (arith, p)) (λ is. absurd (omega (arith, is, w))))

pub opened_unfilled : (f : Ops) (own : List ℕ) (number M N bound : ℕ) (before after : List ℕ) (b : Book) → Opens f own number M N bound before b after
    → Unfilled b.terms after
opened_unfilled f own number M N bound before after b o =
    subst₂ (λ M N. (s n : ℕ) → Within 2 M s → Page N n → signature_in after N s n ≡ 0) (sym o.terms.1) (sym o.terms.2)
    (opened_clear f own M N (all_sums N bound) before after o.rows (omega (arith, (open_cleared f number M N bound (length own) (length before) o.accepted).bound_in)))

-- ── a reply is taken
module _ (f : Ops) (own : List ℕ) (t : Terms) (q : Question) (xs : List Standing) (g : Stage) (only : Option ℕ) (opens : AsksOnly g only) (asks : StageAsks t g q)
    (ks : List Call) (h : Heard t q xs g ks) (p : Slip) (words values before after : List ℕ) (u : Unit {0})
    (same : (p.request.asked ≡ q.asked) × (p.request.first ≡ q.first) × (p.request.last ≡ q.last))
    (within : Within 2 t.farm.stations p.request.station) (asked : AskedAt g p.request.station) (out : reply_in (standing_of xs p.request.station) ≡ 0)
    (reply : Reply f p.request words values) (entered : Entered t.farm.pages p.request values before after) (stands : Stands f own t ks before) where
  requested : (k : ℕ) → Within p.request.first p.request.last k → Index p.request.asked t.farm.pages k
  requested = request_indices t q g only opens asks p.request same

  stays : (a : Asked) (s i : ℕ) → 1 ≤ s → Index a t.farm.pages i → ((k : ℕ) → Within p.request.first p.request.last k → s ≡ p.request.station → a ≡ p.request.asked → i ≢ k)
      → get_or after (place_of a t.farm.pages s i) 0 ≡ get_or before (place_of a t.farm.pages s i) 0
  stays a s i lo index apart =
      entered.rest (place_of a t.farm.pages s i)
      (λ k from to. let w : Within p.request.first p.request.last k = omega (arith, reply.count) in
      places_apart a p.request.asked t.farm.pages s p.request.station i k lo (omega (arith, within)) index (requested k w) (apart k w))

  values_are : drop 4 words ≡ values
  values_are = ap (λ words. drop 4 words) reply.parts

  abbrev now : List Call
  now = take p words before (Ok u) after ∷ ks

  stand_now : (a : Asked) (s i v : ℕ) → Replied now a s i v → get_or after (place_of a t.farm.pages s i) 0 ≡ v
  stand_now a s i v (inl r) =
      subst₂ (λ a s. get_or after (place_of a t.farm.pages s i) 0 ≡ v) r.1 r.0
      (entered.each i r.2.0 (omega (arith, reply.count, r.2))
      (index_inside p.request.asked t.farm.stations t.farm.pages p.request.station i (length before) (omega (arith, within)) within.1 stands.room (requested i r.2))
      ∙ ap (λ values. value_of (get_or values (i - p.request.first) 0)) (sym values_are) ∙ r.3)
  stand_now a s i v (inr r) =
      let d = h.due a s i v r in
      stays a s i (omega (arith, d.0)) (due_index t g a s i d.1)
      (λ k w is kind e. h.none p.request.station k v asked out (omega (arith, w, same.1, same.2))
      (subst₂ (λ a s. Replied ks a s k v) (kind ∙ same.0) is (subst (λ i. Replied ks a s i v) e r)))
      ∙ at_place f own t ks before stands a s i v r

  pub taken_stands : Stands f own t (take p words before (Ok u) after ∷ ks) after
  taken_stands = record {
    room = omega (arith, stands.room, entered.size);
    told = record {
      own_row = λ n page. stays Signatures 1 n (omega arith) page (λ k w is kind. absurd (omega (arith, is, within))) ∙ stands.told.own_row n page;
      own_sums = λ j page. stays Sums 1 j (omega arith) (omega (arith, page, t.farm.bound_in.1)) (λ k w is kind. absurd (omega (arith, is, within))) ∙ stands.told.own_sums j page;
      sums = stand_now Sums;
      signatures = stand_now Signatures;
    };
  }

  -- signatures are asked for in a plain check alone
  pub taken_unfilled : q.asked ≡ Sums → Unfilled t before → Unfilled t after
  taken_unfilled kind none s n w page = stays Signatures s n (omega (arith, w)) page (λ k v is asks. absurd (let e = same.0 in cc)) ∙ none s n w page
