-- Lines: their blanks and words, and what a line is.
use Rattle.std.specs.Prelude.{ℕ, ◌+◌, ◌==◌, nat_eq, Bool, not, ◌||◌, if◌then◌else◌, List, [], ◌∷◌, length, take, drop, codes, position, unwrap_or}
use Rattle.std.specs.List.{starts_with}
use Rattle.std.specs.Cmp.Lexicographic.{pointwise}
use Rattle.sb_script.specs.declared.lines.Line.{Line}
use Rattle.sb_script.specs.declared.lines.Line.TheVariants as line

abbrev pub same : List ℕ → List ℕ → Bool
same = pointwise nat_eq

-- a space or a tab
unfoldable pub is_blank : ℕ → Bool
is_blank b = b == 32 || b == 9

-- no blank
abbrev pub is_ink : ℕ → Bool
is_ink b = not (is_blank b)

-- how many bytes stand before the first blank
abbrev pub word_len : List ℕ → ℕ
word_len z = unwrap_or (position is_blank z) (length z)

-- how many blanks stand in front
abbrev pub blanks_len : List ℕ → ℕ
blanks_len z = unwrap_or (position is_ink z) (length z)

abbrev pub behind_blanks : List ℕ → List ℕ
behind_blanks z = drop (blanks_len z) z

-- where the last byte that is no blank ends, by the place of the next byte and the end so far
abbrev pub ink_end_from : ℕ → ℕ → List ℕ → ℕ
ink_end_from at end [] = end
ink_end_from at end (b ∷ z) = ink_end_from (at + 1) (if is_blank b then end else at + 1) z

-- where the last byte that is no blank ends, 0 where each is one
abbrev pub ink_end : List ℕ → ℕ
ink_end z = ink_end_from 0 0 z

abbrev pub before_blanks : List ℕ → List ℕ
before_blanks z = take (ink_end z) z

-- without the blanks at its ends
abbrev pub trimmed : List ℕ → List ℕ
trimmed z = before_blanks (behind_blanks z)

-- the first word
abbrev pub word : List ℕ → List ℕ
word z = take (word_len z) z

-- what stands behind the first word and the blanks that follow it
abbrev pub behind_word : List ℕ → List ℕ
behind_word z = behind_blanks (drop (word_len z) z)

-- GO in either case
abbrev pub is_go : List ℕ → Bool
is_go z = same z (codes "GO") || same z (codes "Go") || same z (codes "gO") || same z (codes "go")

abbrev pub line_by : List ℕ → Line
line_by z = if is_go z then line.Go else (if starts_with nat_eq z (codes ":") then line.Command else line.Text)

-- what a line is, whatever the blanks at its ends
unfoldable pub line_of : List ℕ → Line
line_of z = line_by (trimmed z)
