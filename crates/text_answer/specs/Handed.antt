-- What the finder hands to the printer: its answer as the model's desk gives it, and the diary and the pairs at the fronts of the
-- buffers. The text of what is handed over is the model's.
use Rattle.std.specs.Prelude.{ℕ, ◌≡◌, refl, length, Result}
use Rattle.std.proofs.Common.{sym, ◌∙◌}
use Rattle.std.proofs.Math.Path.{ap, ap₂}
use mathlib.Core.List.{List, [], ◌∷◌, ◌++◌, append_assoc}
use Rattle.std.proofs.lemmas.List.{length-map}
use Rattle.lists.specs.Keep.{gather}
use Rattle.model.specs.Text.{text}
use Rattle.model.specs.Reading.{Reading, accepted, refused}
use Rattle.model.specs.Roster.{Roster}
use Rattle.model.specs.Edges.{instance_of}
use Rattle.model.specs.Instance.{Instance}
use Rattle.model.specs.Plans.{Plan, on}
use Rattle.model.specs.PlanFile.{edges_in, pair_list, plan_bytes_by, plan_bytes}
use Rattle.model.specs.Reduction.{steps_of}
use Rattle.model.specs.Finder as F
use Rattle.model.specs.Finder.{record_of, diary_of}
use Rattle.model_desk.specs.Desk.{refusal, found_answer}
use Rattle.model.specs.Printed.{number, signed, line, diary_line, counted, plan_lines, ending}
use Rattle.theory_finder.specs.Choices.{chosen}
use Rattle.diary.specs.FlatDiary.{written}
use Rattle.answers.specs.declared.Found.{Found}
use Rattle.std.specs.declared.result.Result.TheVariants.{Ok, Err}
use Rattle.answers.specs.declared.Refusal.{Refusal}
use Rattle.answers.specs.FinderCases.{finding_shown, found_shown, shows_finding}
use Rattle.text_lines.specs.Texts.{texts}
use Rattle.text_lines.specs.Lines.{diary_at, pair_at}
use Rattle.text_lines.specs.Held.{diary_lines, pair_lines_law}
use Rattle.text_lines.specs.Endings.{counted_text, plan_text, rivalled_text}
use Rattle.text_answer.specs.Printable.{shown_text}

-- a buffer that begins with some bytes
abbrev pub Front : List ℕ → List ℕ → Type 0
Front x buffer = (rest : List ℕ) × (buffer ≡ x ++ rest)

-- the pairs that go with an answer
abbrev pub Pairs : Instance → F.Found → (left plan rival : List ℕ) → Type 0
Pairs G (F.plan M) left plan rival = Front (plan_bytes G M) plan
Pairs G (F.left es) left plan rival = Front (pair_list G es) left
Pairs G (F.rivalled M N v) left plan rival = Front (plan_bytes G M) plan × Front (plan_bytes G N) rival

-- for what the finder found: the desk's answer, the diary in front of its buffer, and the pairs that go with the answer in theirs
pub record Handed (G : Instance) (f : F.Found) (a : Found) (flat left plan rival : List ℕ) : Type 0 where
  pub answer : finding_shown a ≡ found_answer (length (steps_of G)) f
  pub diary : (d : List ℕ) × (flat ≡ written (diary_of G) d)
  pub pairs : Pairs G f left plan rival

-- for a roster file as it is read: what the finder hands over for the roster, or the refusal
abbrev pub HandedFor : Reading Roster → Result Found Refusal → (flat left plan rival : List ℕ) → Type 0
HandedFor (accepted r) (Ok a) flat left plan rival = Handed (instance_of r) (F.finder_of (instance_of r) (chosen.rival_of (instance_of r))) a flat left plan rival
HandedFor (accepted r) (Err n) flat left plan rival = ⊥
HandedFor (refused n) a flat left plan rival = found_shown a ≡ refusal n

-- ---- its text
-- a word and a count as one line
counted_line : (w k p : List ℕ) → ((w ++ 32 ∷ []) ++ (k ++ 10 ∷ [])) ++ p ≡ line (w ∷ k ∷ []) ++ p
counted_line w k p = simp append_assoc

rivalled_lines : (w k p q : List ℕ) → (((w ++ 32 ∷ []) ++ (k ++ 10 ∷ [])) ++ p) ++ q ≡ line (w ∷ k ∷ []) ++ (p ++ q)
rivalled_lines w k p q = simp append_assoc

module _ (G : Instance) where
  pairs_text : (w : List ℕ) (es buffer : List ℕ) → Front (pair_list G es) buffer → counted_text (w ++ 32 ∷ []) buffer (length es) ≡ counted G w es
  pairs_text w es buffer (rest, e) =
      ap (λ b. counted_text (w ++ 32 ∷ []) b (length es)) e
      ∙ counted_line w (number (length es)) (texts (pair_at (pair_list G es ++ rest)) (length es))
      ∙ ap (λ p. line (w ∷ number (length es) ∷ []) ++ p) (pair_lines_law G es rest)

  plan_text_law : (w : List ℕ) (M : Plan) (buffer : List ℕ) → Front (plan_bytes G M) buffer → plan_text (w ++ 32 ∷ []) buffer ≡ plan_lines G w M
  unfolding plan_bytes_by
  plan_text_law w M buffer (rest, e) =
      ap (plan_text (w ++ 32 ∷ [])) e ∙ pairs_text w (edges_in G.m (on M)) (pair_list G (edges_in G.m (on M)) ++ rest) (rest, refl)

  diary_text : (flat : List ℕ) → ((d : List ℕ) × (flat ≡ written (diary_of G) d)) → texts (diary_at flat) (length (steps_of G)) ≡ gather diary_line (diary_of G)
  unfolding diary_of
  diary_text flat (d, e) = ap₂ (λ b n. texts (diary_at b) n) e (sym (length-map (steps_of G) (record_of G))) ∙ diary_lines (diary_of G) d

module _ {G : Instance} {a : Found} {flat left plan rival : List ℕ} where
  pub handed_text : (f : F.Found) → Handed G f a flat left plan rival → shown_text (Ok a) flat left plan rival ≡ gather diary_line (diary_of G) ++ ending G f
  unfolding text
  handed_text (F.plan M) h =
      ap (λ a. shown_text (Ok a) flat left plan rival) (shows_finding a h.answer)
      ∙ ap₂ (λ (x y : List ℕ). x ++ y) (diary_text G flat h.diary) (plan_text_law G (text "plan") M plan h.pairs)
  handed_text (F.left es) h =
      ap (λ a. shown_text (Ok a) flat left plan rival) (shows_finding a h.answer)
      ∙ ap₂ (λ (x y : List ℕ). x ++ y) (diary_text G flat h.diary) (pairs_text G (text "none left") es left h.pairs)
  handed_text (F.rivalled M N v) h =
      ap (λ a. shown_text (Ok a) flat left plan rival) (shows_finding a h.answer)
      ∙ ap₂ (λ (x y : List ℕ). x ++ y) (diary_text G flat h.diary) (rivalled_text_law h.pairs.0 h.pairs.1)
    where
      rivalled_text_law : Front (plan_bytes G M) plan → Front (plan_bytes G N) rival → rivalled_text v plan rival ≡ ending G (F.rivalled M N v)
      rivalled_text_law p q =
          rivalled_lines (text "none rivalled") (signed v) (plan_text (text "candidate ") plan) (plan_text (text "rival ") rival)
          ∙ ap₂ (λ (x y : List ℕ). line (text "none rivalled" ∷ signed v ∷ []) ++ (x ++ y)) (plan_text_law G (text "candidate") M plan p)
          (plan_text_law G (text "rival") N rival q)
