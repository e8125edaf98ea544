-- The question and its answer over an instance: two plan files, then the ranges; the least vote and the choice that reaches it.
use Rattle.std.specs.Prelude.{ℕ, zero, suc, ◌*◌, ◌≤◌, ◌<◌, ◌≡◌, Bool, true, List, ◌++◌, length, take, drop, T, ℤ, Result}
use Rattle.std.proofs.Common.{arith, sym, ap, ap₂, ◌∙◌, subst, length-take-le, get_or-take, ext_get_or}
use Rattle.std.proofs.Math.Path.{refl, fun_ext}
use Rattle.std.proofs.Math.Seq.{take-length}
use Rattle.lists.specs.Test.{given}
use Rattle.model.specs.Limits.{empty_rank}
use Rattle.model.specs.Reading.{Reading, accepted, refused}
use Rattle.model.specs.Roster.{Roster, fits}
use Rattle.model.specs.Edges.{instance_of}
use Rattle.model.specs.Instance as model
use Rattle.model.specs.Plans.{Plan, on}
use Rattle.model.specs.PlanFile.{edges_in, read_plan}
use Rattle.model.specs.Vote.{vote}
use Rattle.model.specs.Ranges.{Range, Question, ranges_judged, read_ranges, read_question, first_judged, second_judged}
use Rattle.model_desk.specs.Desk.{onto}
use Rattle.theory_ranges.specs.Falls.{with_ranks}
use Rattle.theory_ranges.specs.Worst.{entry_s, entry_t, ranked_by, worst_by, worst_choice, worst_length, worst_choice_law, choice_placed}
use Rattle.theory_ranges.specs.RosterPlaces.{entries_twice}
use Rattle.theory_ranges.specs.RangesFile.{ranges_refusal, ranges_of, reading_by, read_is, Taken, taken, taken_fit}
use Rattle.plan_reader.specs.declared.PlanRead.{PlanRead}
use Rattle.plan_reader.specs.Answers.{ReadAs, accepted_read, refused_read}
use Rattle.arrays.specs.ArrayInstance.{at, flag}
use Rattle.std.specs.declared.result.Result.TheVariants.{Ok, Err}
use Rattle.answers.specs.declared.Refusal.{Refusal}
use Rattle.answers.specs.RefusalCases.{number_of, number_some}
use Rattle.ranges_choice.specs.Chosen.{ShowsList}
use Rattle.answers.specs.declared.LeastVote.{LeastVote}

-- ---- the question over an instance: its roster has two list entries a pair
abbrev pub ranges_read : ℕ → List ℕ → Reading (List Range)
ranges_read m bs = reading_by (ranges_refusal (2 * m) bs) (ranges_of (2 * m) bs)

abbrev pub second_on : model.Instance → Plan → Reading Plan → (ranges : List ℕ) → Reading Question
second_on G M (accepted N) ranges = ranges_judged M N (ranges_read G.m ranges)
second_on G M (refused n) ranges = refused n

abbrev pub first_on : model.Instance → Reading Plan → (second ranges : List ℕ) → Reading Question
first_on G (accepted M) second ranges = second_on G M (read_plan G second) ranges
first_on G (refused n) second ranges = refused n

-- the whole question: the first plan file, then the second, then the ranges
abbrev pub question_on : model.Instance → (first second ranges : List ℕ) → Reading Question
question_on G a b c = first_on G (read_plan G a) b c

-- of a roster within the limits it is the model's
pub question_is : (r : Roster) → T (fits r) → (a b c : List ℕ) → read_question r a b c ≡ question_on (instance_of r) a b c
unfolding read_question instance_of
question_is r ok a b c = first (read_plan (instance_of r) a)
  where
    ranges : read_ranges r c ≡ ranges_read (instance_of r).m c
    ranges = read_is r c ∙ ap (λ n. reading_by (ranges_refusal n c) (ranges_of n c)) (entries_twice r ok)

    second : (M : Plan) (x : Reading Plan) → second_judged r M x c ≡ second_on (instance_of r) M x c
    second M (accepted N) = ap (ranges_judged M N) ranges
    second M (refused n) = refl

    first : (x : Reading Plan) → first_judged r x b c ≡ first_on (instance_of r) x b c
    first (accepted M) = second M (read_plan (instance_of r) b)
    first (refused n) = refl

-- ---- the answer, and the buffer
abbrev pub choice_on : model.Instance → Question → List ℕ
choice_on G q = worst_choice G (on q.first) (on q.second) q.ranges

-- the code's answer, in the words of the model's readings: a vote and a number of bytes, or the number of the refusal
abbrev pub least_read : Result LeastVote Refusal → Reading (ℤ × ℕ)
least_read (Ok a) = accepted (a.vote, a.length)
least_read (Err r) = refused (number_of r)

-- the answer: the vote under the choice that is written, with the number of its bytes, or the number of the refusal
abbrev pub least_case : model.Instance → Reading Question → Reading (ℤ × ℕ)
least_case G (accepted q) = accepted (vote (ranked_by G (choice_on G q)) (on q.first) (on q.second), length (choice_on G q))
least_case G (refused n) = refused n

-- the buffer afterwards: the choice at its front, or every byte as it was where the question is refused
abbrev pub least_bytes : model.Instance → Reading Question → List ℕ → List ℕ
least_bytes G (accepted q) out = onto (choice_on G q) out
least_bytes G (refused n) out = out

-- the answer and the buffer are those of the question as it is read
pub record Asked (G : model.Instance) (x : Reading Question) (out : List ℕ) (answer : Result LeastVote Refusal) (out' : List ℕ) : Type 0 where
  pub said : least_read answer ≡ least_case G x
  pub written : out' ≡ least_bytes G x out

-- ---- refused, and answered
module _ (G : model.Instance) (p q : Plan) (ranges out : List ℕ) where
  abbrev n : ℕ
  n = 2 * G.m

  by_refusal : (k : ℕ) → 0 < k → (rs : List Range) → ranges_judged p q (reading_by k rs) ≡ refused k
  by_refusal (suc k) h rs = refl
  by_refusal zero h rs = absurd (omega arith)

  by_none : (k : ℕ) → k ≤ 0 → (rs : List Range) → ranges_judged p q (reading_by k rs) ≡ accepted (record { first = p; second = q; ranges = rs })
  by_none (suc k) h rs = absurd (omega arith)
  by_none zero h rs = refl

  abbrev pub asked : Reading Question
  asked = ranges_judged p q (ranges_read G.m ranges)

  pub asked_refused : (c : Refusal) → number_of c ≡ ranges_refusal n ranges → Asked G asked out (Err c) out
  asked_refused c e =
      let j : asked ≡ refused (number_of c) = by_refusal (ranges_refusal n ranges) (omega (arith, e, number_some c)) (ranges_of n ranges) ∙ ap refused (sym e) in
      record { said = sym (ap (least_case G) j); written = sym (ap (λ x. least_bytes G x out) j) }

  -- the ranges are taken
  module _ (none : ranges_refusal n ranges ≤ 0) (es ws : List ℕ) (listed : es ≡ edges_in G.m (flag p))
      (shows : ShowsList (worst_by G (flag q) es (ranges_of n ranges)) ws) where
    rs : List Range
    rs = ranges_of n ranges

    pub ranges_taken : Taken n ranges
    ranges_taken = taken n ranges (omega arith)

    abbrev worst : List ℕ
    worst = worst_choice G (flag p) (flag q) (ranges_of n ranges)

    same : (k : ℕ) → at ws k ≡ at worst k
    same k = shows k ∙ ap (λ xs. at (worst_by G (flag q) xs (ranges_of n ranges)) k) listed

    many : length worst ≡ n
    many = worst_length G (flag q) (edges_in G.m (flag p)) (ranges_of n ranges) ∙ ranges_taken.each

    pub small : (k : ℕ) → at ws k < empty_rank
    small k =
        let fit = taken_fit n ranges ranges_taken in
        subst (λ z. z < empty_rank) (sym (same k))
        (choice_placed G (flag p) (flag q) (ranges_of n ranges) fit worst (worst_choice_law G (flag p) (flag q) (ranges_of n ranges) fit) k)

    pub asked_answered : {v : ℤ} {k : ℕ} {out' : List ℕ} → n ≤ length ws → v ≡ vote (ranked_by G ws) (flag p) (flag q) → k ≡ length (take n ws)
        → out' ≡ take (length (take n ws)) (take n ws) ++ drop (length (take n ws)) out → Asked G asked out (Ok (record { vote = v; length = k })) out'
    asked_answered {v} {k} l e c w =
        let j = by_none (ranges_refusal n ranges) none (ranges_of n ranges) in
        let f : at ws ≡ at worst = fun_ext same in
        let front : take n ws ≡ worst = ext_get_or 0 (take n ws) worst (length-take-le n ws l ∙ sym many)
        (λ i h. get_or-take n ws i 0 (omega (arith, length-take-le n ws l)) ∙ same i) in
        record {
          said = ap₂ (λ y z. accepted (y, z)) (e ∙ ap (λ g. vote (with_ranks G (λ e. g (entry_s G e)) (λ e. g (entry_t G e))) (flag p) (flag q)) f) (c ∙ ap length front)
              ∙ sym (ap (least_case G) j);
          written = w ∙ ap (λ x. x ++ drop (length (take n ws)) out) (take-length (take n ws)) ∙ ap (λ x. onto x out) front ∙ sym (ap
              (λ x. least_bytes G x out) j);
        }

-- ---- the plan files: a refusal, and which plan it is by its edges alone
module _ (G : model.Instance) (out : List ℕ) where
  refused_as : (x : Reading Question) (c : Refusal) → x ≡ refused (number_of c) → Asked G x out (Err c) out
  refused_as x c e = record {
    said = sym (ap (least_case G) e);
    written = sym (ap (λ x. least_bytes G x out) e);
  }

  -- the answer and the buffer, by the plans' edges
  answer_by : (f h : ℕ → Bool) → Reading (List Range) → Reading (ℤ × ℕ)
  answer_by f h (accepted rs) = accepted (vote (ranked_by G (worst_choice G f h rs)) f h, length (worst_choice G f h rs))
  answer_by f h (refused n) = refused n

  bytes_by : (f h : ℕ → Bool) → Reading (List Range) → List ℕ
  bytes_by f h (accepted rs) = onto (worst_choice G f h rs) out
  bytes_by f h (refused n) = out

  said_by : (M N : Plan) (x : Reading (List Range)) → least_case G (ranges_judged M N x) ≡ answer_by (on M) (on N) x
  unfolding answer_by
  said_by M N (accepted rs) = refl
  said_by M N (refused n) = refl

  written_by : (M N : Plan) (x : Reading (List Range)) → least_bytes G (ranges_judged M N x) out ≡ bytes_by (on M) (on N) x
  unfolding bytes_by
  written_by M N (accepted rs) = refl
  written_by M N (refused n) = refl

  -- so plans with the same edges have the same answer
  same_plans : (M M' N N' : Plan) → on M ≡ on M' → on N ≡ on N' → (x : Reading (List Range)) {v : Result LeastVote Refusal} {out' : List ℕ}
      → Asked G (ranges_judged M N x) out v out' → Asked G (ranges_judged M' N' x) out v out'
  same_plans M M' N N' d e x a = record {
    said = a.said ∙ said_by M N x ∙ ap₂ (λ f h. answer_by f h x) d e ∙ sym (said_by M' N' x);
    written = a.written ∙ written_by M N x ∙ ap₂ (λ f h. bytes_by f h x) d e ∙ sym (written_by M' N' x);
  }

  pub same_second : (p q N : Plan) → on q ≡ on N → (x : Reading (List Range)) {v : Result LeastVote Refusal} {out' : List ℕ}
      → Asked G (ranges_judged p q x) out v out' → Asked G (ranges_judged p N x) out v out'
  same_second p q N e x a = same_plans p p q N refl e x a

  pub same_first : (p M : Plan) → on p ≡ on M → (y : Reading Plan) (ranges : List ℕ) {v : Result LeastVote Refusal} {out' : List ℕ}
      → Asked G (second_on G p y ranges) out v out' → Asked G (second_on G M y ranges) out v out'
  same_first p M e (accepted N) ranges a = same_plans p M N N e refl (ranges_read G.m ranges) a
  same_first p M e (refused n) ranges a = a

module _ {H : model.Instance} {file : List ℕ} {r : Result PlanRead Refusal} (A : ReadAs true H file r) (out : List ℕ) where
  module _ (p : Plan) (ranges : List ℕ) where
    pub second_refused : {c : Refusal} → r ≡ Err c → Asked H (second_on H p (read_plan H file) ranges) out (Err c) out
    second_refused {c} q = refused_as H out (second_on H p (read_plan H file) ranges) c (ap (λ x. second_on H p x ranges) (refused_read A q))

    pub second_accepted : {c : PlanRead} {v : Result LeastVote Refusal} {out' : List ℕ} → r ≡ Ok c
        → Asked H (ranges_judged p c.chosen (ranges_read H.m ranges)) out v out' → Asked H (second_on H p (read_plan H file) ranges) out v out'
    second_accepted {c} {v} {out'} q a = given (accepted_read A q) (λ (M, e, s).
        subst (λ x. Asked H (second_on H p x ranges) out v out') (sym e) (same_second H out p c.chosen M s (ranges_read H.m ranges) a))

  module _ (second ranges : List ℕ) where
    pub first_refused : {c : Refusal} → r ≡ Err c → Asked H (question_on H file second ranges) out (Err c) out
    first_refused {c} q = refused_as H out (question_on H file second ranges) c (ap (λ x. first_on H x second ranges) (refused_read A q))

    pub first_accepted : {c : PlanRead} {v : Result LeastVote Refusal} {out' : List ℕ} → r ≡ Ok c
        → Asked H (second_on H c.chosen (read_plan H second) ranges) out v out' → Asked H (question_on H file second ranges) out v out'
    first_accepted {c} {v} {out'} q a = given (accepted_read A q) (λ (M, e, s).
        subst (λ x. Asked H (first_on H x second ranges) out v out') (sym e) (same_first H out c.chosen M s (read_plan H second) ranges a))
