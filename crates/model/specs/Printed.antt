-- What the program prints: section "The program" of document 01.
use Rattle.std.specs.Prelude.{ℕ, zero, suc, ◌+◌, ◌/◌, ◌%◌, true, false, List, [], ◌∷◌, ◌++◌, length, take, ltb, ℤ, pos, negsuc}
use Rattle.lists.specs.Keep.{gather}
use Rattle.model.specs.Limits.{input_size}
use Rattle.model.specs.Text.{text}
use Rattle.model.specs.Refusal.{Group, form, content, plan, desk, group_of}
use Rattle.model.specs.Reading.{Reading, accepted, refused}
use Rattle.model.specs.Roster.{Roster}
use Rattle.model.specs.RosterFile.{read_roster}
use Rattle.model.specs.Edges.{instance_of}
use Rattle.model.specs.Instance.{Instance}
use Rattle.model.specs.Plans.{Plan, on}
use Rattle.model.specs.PlanFile.{edges_in}
use Rattle.model.specs.Finder.{Record, diary_of, Found, left, rivalled, finder_of}
use Rattle.model.specs.Finder as finder

-- a number in decimal, of at most `places` digits
unfoldable pub digits : (places : ℕ) → ℕ → List ℕ
digits zero n = []
digits (suc k) n = elim (ltb n 10) as (λ b. List ℕ) [ true ↦ (48 + n) ∷ [] | false ↦ digits k (n / 10) ++ (48 + n % 10) ∷ [] ]

-- what is printed is at most 1,024, a count of pairs, so four digits hold it
abbrev pub number : ℕ → List ℕ
number n = digits 4 n

-- "V is the vote, with a minus sign below zero"
abbrev pub signed : ℤ → List ℕ
signed (pos n) = number n
signed (negsuc n) = text "-" ++ number (suc n)

-- some fields in a line: a space between two, byte 10 at the end
abbrev pub line : List (List ℕ) → List ℕ
line [] = 10 ∷ []
line (x ∷ []) = x ++ 10 ∷ []
line (x ∷ y ∷ xs) = x ++ 32 ∷ line (y ∷ xs)

-- "Diary lines are fate, surveyor, stand, rule", and all lines "carry the shift after the stand" (W-204)
abbrev pub fate_word : ℕ → List ℕ
fate_word zero = []
fate_word (suc zero) = text "fix"
fate_word (suc (suc n)) = text "strike"

-- a diary line: fate, surveyor, stand, shift, rule
abbrev pub diary_line : Record → List ℕ
diary_line x = line (fate_word x.fate ∷ number x.surveyor ∷ number x.stand ∷ number x.shift ∷ number x.rule ∷ [])

-- "Pair lines are surveyor, stand; K counts them", with the shift after the stand, after a line of a word and K
abbrev pub pair_line : Instance → ℕ → List ℕ
pair_line G e = line (number (suc (G.sv e)) ∷ number (suc (G.st e)) ∷ number (G.sh e) ∷ [])

-- a pair line for each of some edges
abbrev pub pair_lines : Instance → List ℕ → List ℕ
pair_lines G es = gather (pair_line G) es

-- a line of a word and K, and the K pair lines
abbrev pub counted : Instance → List ℕ → List ℕ → List ℕ
counted G word es = line (word ∷ number (length es) ∷ []) ++ pair_lines G es

-- a line of a word and the number of a plan's pairs, and their pair lines
abbrev pub plan_lines : Instance → List ℕ → Plan → List ℕ
plan_lines G word M = counted G word (edges_in G.m (on M))

-- what comes after the diary lines: the plan; the pairs left; or the vote, the candidate and its rival
abbrev pub ending : Instance → Found → List ℕ
ending G (finder.plan M) = plan_lines G (text "plan") M
ending G (left es) = counted G (text "none left") es
ending G (rivalled F N v) = line (text "none rivalled" ∷ signed v ∷ []) ++ (plan_lines G (text "candidate") F ++ plan_lines G (text "rival") N)

-- a group's word in the line of a refusal
abbrev pub group_word : Group → List ℕ
group_word form = text "form"
group_word content = text "content"
group_word plan = text "plan"
group_word desk = text "desk"

-- "they come before every ending but a refusal"; "refused N GROUP" stands alone
abbrev pub answer_text : Reading Roster → (Instance → Plan → Plan) → List ℕ
answer_text (accepted r) rival_of = gather diary_line (diary_of (instance_of r)) ++ ending (instance_of r) (finder_of (instance_of r) (rival_of (instance_of r)))
answer_text (refused n) rival_of = line (text "refused" ∷ number n ∷ group_word (group_of n) ∷ [])

-- "It reads a roster of at most" 4,263 bytes (W-204) "from standard input and prints the finder's answer."
unfoldable pub printed : (Instance → Plan → Plan) → List ℕ → List ℕ
printed rival_of input = answer_text (read_roster (take input_size input)) rival_of
