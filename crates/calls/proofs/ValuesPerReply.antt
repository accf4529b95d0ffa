-- How many values an accepted reply has: as many as the asking's question is for.
use Rattle.std.proofs.Common.{◌≡◌, ℕ, suc, ◌-◌, List, length, ap, ◌∙◌, arith, length-append}
use Rattle.field.specs.Field.{Ops}
use Rattle.wire.specs.Requests.{request_words}
use Rattle.wire.specs.Reading.{Reply}
use Rattle.wire.specs.declared.request.Request.{Request}
use Rattle.calls.specs.declared.question.Question.{Question}
use Rattle.calls.specs.declared.book.Book.{Book}
use Rattle.calls.specs.Slips.{OutHere}

-- how many values the question is for, of each station
abbrev pub per_reply : Question → ℕ
per_reply q = suc q.last - q.first

pub values_per_reply : (f : Ops) (b : Book) (q : Request) (words values : List ℕ) → OutHere b q → Reply f q words values
    → length values ≡ per_reply b.question
values_per_reply f b q words values out reply = omega (arith, reply.count, out.0.3, out.0.4)

-- the value words are those after the four header words
pub values_after_header : (f : Ops) (q : Request) (words values : List ℕ) → Reply f q words values → length words - 4 ≡ length values
values_after_header f q words values reply = omega (arith, ap length reply.parts ∙ length-append (request_words q) values)
