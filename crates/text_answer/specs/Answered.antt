-- What the printer writes.
use Rattle.std.specs.Prelude.{ℕ, ◌+◌, ◌≡◌, refl, List, [], ◌∷◌, ◌++◌, length, drop, Result}
use Rattle.std.proofs.Common.{arith, ap, ◌∙◌, subst, append_assoc}
use Rattle.lists.specs.Keep.{gather}
use Rattle.model.specs.Text.{text}
use Rattle.model.specs.Refusal.{group_of}
use Rattle.model.specs.Reading as reading
use Rattle.model.specs.Reading.{Reading, accepted}
use Rattle.model.specs.Roster.{Roster}
use Rattle.model.specs.Edges.{instance_of}
use Rattle.model.specs.Instance.{Instance}
use Rattle.model.specs.Finder as F
use Rattle.model.specs.Finder.{diary_of}
use Rattle.model_desk.specs.Desk.{onto}
use Rattle.model.specs.Printed.{number, line, diary_line, ending, group_word, answer_text}
use Rattle.theory_finder.specs.Choices.{chosen}
use Rattle.answers.specs.declared.Group.{Group}
use Rattle.answers.specs.GroupCases.{group_shown, group_case, shown_case}
use Rattle.answers.specs.declared.Found.{Found}
use Rattle.std.specs.declared.result.Result.TheVariants.{Ok, Err}
use Rattle.answers.specs.declared.Refusal.{Refusal}
use Rattle.answers.specs.RefusalCases.{number_of}
use Rattle.answers.specs.FinderCases.{finding_not, refusal_number}
use Rattle.text_lines.specs.Appended.{Appended}
use Rattle.text_lines.specs.Endings.{refused_text}
use Rattle.text_answer.specs.Printable.{shown_text}
use Rattle.text_answer.specs.Handed.{Handed, HandedFor, handed_text}

-- a text in a buffer's front, and its length
pub record Wrote (x before : List ℕ) (n : ℕ) (after : List ℕ) : Type 0 where
  pub size : n ≡ length x
  pub bytes : after ≡ onto x before

-- the text of what the finder hands over, and "refused N GROUP"
pub record Answered (a : Result Found Refusal) (flat left plan rival before : List ℕ) (n : ℕ) (after : List ℕ) : Type 0 where
  pub found : (G : Instance) (f : F.Found) (b : Found) → a ≡ Ok b
      → Handed G f b flat left plan rival → Wrote (gather diary_line (diary_of G) ++ ending G f) before n after
  pub refused : (r : Refusal) → a ≡ Err r → Wrote (line (text "refused" ∷ number (number_of r) ∷ group_word (group_of (number_of r)) ∷ [])) before n after

-- ---- from the text that the code writes
wrote_as : {x y before after : List ℕ} {n : ℕ} → x ≡ y → Appended before 0 x after n → Wrote y before n after
wrote_as {x} {y} {before} e a =
    let z : 0 + length x ≡ length x = omega arith in
    record {
      size = a.place ∙ z ∙ ap length e;
      bytes = a.bytes ∙ ap (λ k. x ++ drop k before) z ∙ ap (λ w. onto w before) e;
    }

refused_line : (k : ℕ) (g : Group) → refused_text k g ≡ line (text "refused" ∷ number k ∷ group_word (group_shown g) ∷ [])
unfolding text
refused_line k g = simp append_assoc

pub answered : {a : Result Found Refusal} {flat left plan rival before after : List ℕ} {n : ℕ} → Appended before 0 (shown_text a flat left plan rival) after n
    → Answered a flat left plan rival before n after
answered {a} {flat} {left} {plan} {rival} w = record {
  found = λ G f b e h. wrote_as (ap (λ a. shown_text a flat left plan rival) e ∙ handed_text f h) w;
  refused = λ r e. wrote_as (ap (λ a. shown_text a flat left plan rival) e ∙ refused_line (number_of r) (group_case (group_of (number_of r)))
      ∙ ap (λ g. line (text "refused" ∷ number (number_of r) ∷ group_word g ∷ [])) (shown_case (group_of (number_of r)))) w;
}

-- ---- for a roster file: the model's text of its reading
-- what is written for a reading of the file is the program's text for it, of the finder's answer or of the refusal
pub answered_text : (x : Reading Roster) {a : Result Found Refusal} {flat left plan rival before after : List ℕ} {n : ℕ}
    → HandedFor x a flat left plan rival → Answered a flat left plan rival before n after → Wrote (answer_text x chosen.rival_of) before n after
answered_text (accepted r) {a = Ok b} h w = w.found (instance_of r) (F.finder_of (instance_of r) (chosen.rival_of (instance_of r))) b refl h
answered_text (accepted r) {a = Err n} h w = absurd h
answered_text (reading.refused k) {a = Ok b} h w = finding_not b h
answered_text (reading.refused k) {a = Err r} {before = before} {after = after} {n = n} h w =
    subst (λ k. Wrote (line (text "refused" ∷ number k ∷ group_word (group_of k) ∷ [])) before n after) (refusal_number r h) (w.refused r refl)
