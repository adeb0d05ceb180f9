-- Inputs and their lines, computed. Assumes nothing.
use Rattle.std.specs.Prelude.{◌≡◌, refl, List, [], ◌∷◌, ◌++◌, map, ℕ, length, replicate}
use Rattle.lists.specs.Lists.{bytes}
use Rattle.cache.specs.Run.{Store}
use Rattle.console.specs.Lines.{command_of}
use Rattle.console.specs.Printed.{bad_text}
use Rattle.console.specs.Desk.{answered_of}
use Rattle.serve.specs.Input.{lines_of, printed_of, fed, beginning}

-- an input, and its lines
abbrev inputs : List (List ℕ × List (List ℕ))
inputs =
    ([], [])
    ∷ (bytes "ab", bytes "ab" ∷ [])
    ∷ (bytes "ab" ++ (10 ∷ []), bytes "ab" ∷ [])
    ∷ (bytes "ab" ++ (10 ∷ bytes "c"), bytes "ab" ∷ bytes "c" ∷ [])
    ∷ (10 ∷ 10 ∷ bytes "c" ++ (10 ∷ []), [] ∷ [] ∷ bytes "c" ∷ [])
    ∷ []

lines_are : map (λ (x : List ℕ × List (List ℕ)). lines_of x.0) inputs ≡ map (λ (x : List ℕ × List (List ℕ)). x.1) inputs
lines_are = refl

-- an empty line is a bad line; a last line is answered though no newline ends it
bad-printed : (s : Store) (buffer : List ℕ) → printed_of s buffer (10 ∷ bytes "x") ≡ bad_text ++ bad_text
unfolding answered_of command_of
bad-printed s buffer = refl

-- of a line of 600 bytes, 513 are held
long-held : (s : Store) (buffer : List ℕ) → length (fed (beginning s buffer) (replicate 600 65)).held ≡ 513
unfolding fed
long-held s buffer = refl
