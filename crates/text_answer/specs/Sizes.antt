-- How long the text is, and what the finder hands over is within the limits that the printer asks.
use Rattle.std.specs.Prelude.{ℕ, suc, ◌+◌, ◌*◌, ◌≤◌, ◌≡◌, List, [], ◌∷◌, ◌++◌, length, get_or}
use native.Mathlib.Omega.{arith}
use Rattle.std.proofs.Common.{sym, ap, subst}
use Rattle.std.proofs.Math.ListN.{length-append, length-map}
use Rattle.lists.specs.Keep.{gather}
use Rattle.model.specs.Limits.{entry_limit, plan_limit, plan_size, diary_size, left_size}
use Rattle.model.specs.Text.{text}
use Rattle.model.specs.Refusal.{Group, form, content, plan, desk, group_of}
use Rattle.model.specs.Instance.{Instance}
use Rattle.model.specs.Plans.{Plan, on}
use Rattle.model.specs.PlanFile.{edges_in, plan_bytes_by, plan_bytes}
use Rattle.model.specs.Reduction.{steps_of}
use Rattle.model.specs.Finder as F
use Rattle.model.specs.Finder.{record_of, diary_of}
use Rattle.model.specs.Printed.{number, line, diary_line, pair_line, counted, ending, group_word}
use Rattle.diary.specs.FlatDiary.{flat_size}
use Rattle.std.specs.declared.result.Result.TheVariants.{Ok}
use Rattle.answers.specs.declared.Found.{Found}
use Rattle.answers.specs.FinderCases.{shows_finding}
use Rattle.text_lines.specs.Digits.{field_size, field_length}
use Rattle.text_lines.specs.Votes.{vote_length}
use Rattle.text_lines.specs.Lines.{diary_line_size, diary_length, pair_line_size, pair_length}
use Rattle.text_lines.specs.Room.{Counted, ending_size}
use Rattle.text_answer.specs.Printable.{Printable, text_size}
use Rattle.text_answer.specs.Handed.{Front, Handed}

-- the pairs that go with an answer are no more than the limits say
abbrev pub Small : Instance → F.Found → Type 0
Small G (F.plan M) = length (edges_in G.m (on M)) ≤ plan_limit
Small G (F.left es) = length es ≤ entry_limit
Small G (F.rivalled M N v) = (length (edges_in G.m (on M)) ≤ plan_limit) × (length (edges_in G.m (on N)) ≤ plan_limit)

-- ---- the text's length
gather_length : {A B : Type 0} (g : A → List B) (size : ℕ) → ((x : A) → length (g x) ≤ size) → (xs : List A) → length (gather g xs) ≤ size * length xs
gather_length g size h [] = omega arith
gather_length g size h (x ∷ xs) =
    let e : size * suc (length xs) ≡ size + size * length xs = omega arith in simp length-append (omega (arith, h x, gather_length g size h xs))

group_length : (g : Group) → length (group_word g) ≤ 7
unfolding text
group_length form = omega arith
group_length content = omega arith
group_length plan = omega arith
group_length desk = omega arith

pub refused_length : (n : ℕ) → length (line (text "refused" ∷ number n ∷ group_word (group_of n) ∷ [])) ≤ text_size
unfolding text
refused_length n = simp length-append (omega (arith, simp length-append at (field_length n 10), group_length (group_of n)))

module _ (G : Instance) where
  counted_length : (w es : List ℕ) → length (counted G w es) ≤ length w + 1 + field_size + pair_line_size * length es
  counted_length w es =
      simp length-append
      (omega (
        arith,
        simp length-append at (field_length (length es) 10),
        gather_length (pair_line G) pair_line_size (λ e. pair_length (suc (G.sv e)) (suc (G.st e)) (G.sh e) 10) es,
      ))

  ending_length : (f : F.Found) → Small G f → length (ending G f) ≤ ending_size
  unfolding text
  ending_length (F.plan M) h = omega (arith, counted_length (text "plan") (edges_in G.m (on M)))
  ending_length (F.left es) h = omega (arith, counted_length (text "none left") es)
  ending_length (F.rivalled M N v) (p, q) = simp length-append (omega (
    arith,
    simp length-append at (vote_length v),
    simp length-append at (counted_length (text "candidate") (edges_in G.m (on M))),
    simp length-append at (counted_length (text "rival") (edges_in G.m (on N))),
  ))

  pub text_length : (f : F.Found) → length (steps_of G) ≤ diary_size → Small G f → length (gather diary_line (diary_of G) ++ ending G f) ≤ text_size
  unfolding diary_of
  text_length f h s = rw (length-append (gather diary_line (diary_of G)) (ending G f))
      (omega (arith, gather_length diary_line diary_line_size diary_length (diary_of G), length-map (steps_of G) (record_of G), ending_length f s))

-- ---- what is handed over is printable
plan_counted : (G : Instance) (M : Plan) (buffer : List ℕ) → length (edges_in G.m (on M)) ≤ plan_limit → plan_size ≤ length buffer
    → Front (plan_bytes G M) buffer → Counted buffer
unfolding plan_bytes_by
plan_counted G M buffer h k (rest, e) = (omega (arith, ap (λ b. get_or b 0 0) e), k)

module _ {G : Instance} {a : Found} {flat left plan rival : List ℕ} (steps : length (steps_of G) ≤ diary_size)
    (d : flat_size ≤ length flat) (l : left_size ≤ length left) (p : plan_size ≤ length plan) (v : plan_size ≤ length rival) where
  pub handed_printable : (f : F.Found) → Small G f → Handed G f a flat left plan rival → Printable (Ok a) flat left plan rival
  handed_printable (F.plan M) s h =
      subst (λ k. Printable (Ok k) flat left plan rival) (sym (shows_finding a h.answer)) ((steps, d), plan_counted G M plan s p h.pairs)
  handed_printable (F.left es) s h = subst (λ k. Printable (Ok k) flat left plan rival) (sym (shows_finding a h.answer)) ((steps, d), (s, l))
  handed_printable (F.rivalled M N w) s h = subst (λ k. Printable (Ok k) flat left plan rival) (sym (shows_finding a h.answer))
      ((steps, d), (plan_counted G M plan s.0 p h.pairs.0, plan_counted G N rival s.1 v h.pairs.1))
