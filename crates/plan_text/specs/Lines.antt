-- A text as lines.
use Rattle.std.specs.Prelude.{◌≡◌, ◌≢◌, ◌==◌, ℕ, ◌<◌, ◌⊎◌, if◌then◌else◌, List, [], ◌∷◌, ◌++◌, length, All}

-- the lines with one octet more at the front of the first
abbrev pub with_front : ℕ → List (List ℕ) → List (List ℕ)
with_front b [] = (b ∷ []) ∷ []
with_front b (l ∷ ls) = (b ∷ l) ∷ ls

-- A line feed, the octet 10, ends its line and starts no new one; only the last line may lack it. A text with no octet has no line.
abbrev pub lines_of : List ℕ → List (List ℕ)
lines_of [] = []
lines_of (b ∷ bs) = if b == 10 then [] ∷ lines_of bs else with_front b (lines_of bs)

-- The first line of a text, and what is behind it.
pub record IsFirstLine (text line rest : List ℕ) : Type 0 where
  pub bare : All (λ b. b ≢ 10) line
  pub whole : (text ≡ line ++ (10 ∷ rest)) ⊎ ((text ≡ line) × (rest ≡ []))
  pub lines : lines_of text ≡ line ∷ lines_of rest
  pub shorter : length rest < length text
