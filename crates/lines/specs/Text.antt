-- What `solidjob` prints of an answer (01, "Job file"). Definitions only.
use Rattle.std.specs.Prelude.{ℕ, zero, suc, ◌+◌, ◌*◌, ◌/◌, ◌%◌, cond, List, [], ◌∷◌, ◌++◌, length, drop, get_or, ltb}

-- ---- a number

-- its digits in base 10, n + 1 at most, before a text
unfoldable pub numeral : ℕ → ℕ → List ℕ → List ℕ
numeral zero x l = (48 + x % 10) ∷ l
numeral (suc n) x l = cond (ltb 9 x) (numeral n (x / 10) ((48 + x % 10) ∷ l)) ((48 + x % 10) ∷ l)

-- all digits of a number below 10^20
unfoldable pub decimal : ℕ → List ℕ
decimal x = numeral 19 x []

-- ---- the lines

-- "answer ", "body ", " shells ", "shell ", " inward facets ", " outward facets "
abbrev pub answer_word : List ℕ
answer_word = 97 ∷ 110 ∷ 115 ∷ 119 ∷ 101 ∷ 114 ∷ 32 ∷ []

abbrev pub body_word : List ℕ
body_word = 98 ∷ 111 ∷ 100 ∷ 121 ∷ 32 ∷ []

abbrev pub shells_word : List ℕ
shells_word = 32 ∷ 115 ∷ 104 ∷ 101 ∷ 108 ∷ 108 ∷ 115 ∷ 32 ∷ []

abbrev pub shell_word : List ℕ
shell_word = 115 ∷ 104 ∷ 101 ∷ 108 ∷ 108 ∷ 32 ∷ []

abbrev pub inward_word : List ℕ
inward_word = 32 ∷ 105 ∷ 110 ∷ 119 ∷ 97 ∷ 114 ∷ 100 ∷ 32 ∷ 102 ∷ 97 ∷ 99 ∷ 101 ∷ 116 ∷ 115 ∷ 32 ∷ []

abbrev pub outward_word : List ℕ
outward_word = 32 ∷ 111 ∷ 117 ∷ 116 ∷ 119 ∷ 97 ∷ 114 ∷ 100 ∷ 32 ∷ 102 ∷ 97 ∷ 99 ∷ 101 ∷ 116 ∷ 115 ∷ 32 ∷ []

abbrev pub new_line : List ℕ
new_line = 10 ∷ []

-- "answer N"
unfoldable pub answer_line : ℕ → List ℕ
answer_line n = answer_word ++ (decimal n ++ new_line)

-- "body I shells K"
unfoldable pub body_line : ℕ → ℕ → List ℕ
body_line i k = body_word ++ (decimal i ++ (shells_word ++ (decimal k ++ new_line)))

-- the sense of a shell is 1 for outward, 0 for inward
unfoldable pub way : ℕ → List ℕ
way zero = inward_word
way (suc s) = outward_word

-- "shell J outward|inward facets M"
unfoldable pub shell_line : ℕ → ℕ → ℕ → List ℕ
shell_line j sense m = shell_word ++ (decimal j ++ (way sense ++ (decimal m ++ new_line)))

-- ---- the bytes of an answer: a body's u32 shells; a shell's u8 sense and u32 facets; a facet's 96 bytes of plane, u32 corners, 24 bytes each

-- the u32 at the front; bytes past the end count as 0
unfoldable pub count : List ℕ → ℕ
count r = get_or r 0 0 + 256 * (get_or r 1 0 + 256 * (get_or r 2 0 + 256 * get_or r 3 0))

unfoldable pub behind : List ℕ → List ℕ
behind r = drop (100 + 24 * count (drop 96 r)) r

-- behind so many facets
unfoldable pub skip : ℕ → List ℕ → List ℕ
skip zero r = r
skip (suc m) r = skip m (behind r)

-- the lines of the rest of an answer, behind i bodies and j shells of the last, which has k more
unfoldable pub walk : ℕ → ℕ → ℕ → ℕ → List ℕ → List ℕ
walk zero i j k r = []
walk (suc f) i j k [] = []
walk (suc f) i j zero (b ∷ r) = body_line (i + 1) (count (b ∷ r)) ++ walk f (i + 1) 0 (count (b ∷ r)) (drop 3 r)
walk (suc f) i j (suc k) (b ∷ r) = shell_line (j + 1) b (count r) ++ walk f i (j + 1) k (skip (count r) (drop 4 r))

-- all that is printed of a number and an answer's bytes; a refusal has none
unfoldable pub lines_of : ℕ → List ℕ → List ℕ
lines_of number l = answer_line number ++ walk (length l) 0 0 0 l
