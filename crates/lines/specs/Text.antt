-- The line of a refusal, and how text is written into a buffer that a caller lends.
use Rattle.std.specs.Prelude.{◌≡◌, ℕ, ◌≤◌, List, [], ◌∷◌, ◌++◌, length, drop, codes, Option, Result, Ok, Err}
use Rattle.refusal.specs.declared.Refusal.{Refusal}
use Rattle.refusal.specs.Numbers.{refusal_text}
use Rattle.refusal.specs.Rules.{Rule, unless, Refused, Accepted}
use Rattle.lines.specs.declared.written.Written.{Written}

abbrev pub refusal_line : Refusal → List ℕ
refusal_line r = refusal_text r ++ codes "\n"

-- a buffer that is shorter than the text is refused
abbrev pub writing : (bytes room : ℕ) → List Rule
writing bytes room = unless (bytes ≤ room) 2 2 ∷ []

-- the text stands at the front of the buffer, and the rest stays; or it is refused, and all stays
abbrev pub Writes : (text before : List ℕ) → Result ℕ Refusal → (after : List ℕ) → Type 0
Writes text before (Ok count) after =
    Accepted (writing (length text) (length before)) × (count ≡ length text) × (after ≡ text ++ drop count before)
Writes text before (Err refusal) after = Refused (writing (length text) (length before)) refusal × (after ≡ before)

-- an answer's text, or a refusal's line, is written so
abbrev pub Answers : (Says : Option Refusal → (text : List ℕ) → Type 0) → (before : List ℕ) → Result Written Refusal → (after : List ℕ) → Type 0
Answers Says before (Ok written) after = (text : List ℕ) × Says written.refused text × Writes text before (Ok written.count) after
Answers Says before (Err refusal) after =
    (refused : Option Refusal) × (text : List ℕ) × Says refused text × Writes text before (Err refusal) after
