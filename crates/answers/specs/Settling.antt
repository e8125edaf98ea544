-- A call that takes files and no desk, and writes one file into a lent buffer: 15 before all where the buffer is below its size, then the
-- refusals of what was read, or the number of bytes written; they are in front of the buffer, which keeps the rest, and a refusal changes no byte.
use Rattle.std.specs.Prelude.{ℕ, ⊤, ◌≤◌, ◌<◌, ◌≡◌, Bool, true, false, cond, List, ◌++◌, length, take, drop}
use Rattle.std.specs.Prelude.{Result}
use Rattle.std.specs.declared.result.Result.TheVariants.{Ok, Err}
use Rattle.std.proofs.Common.{arith, sym, ap, ◌∙◌, lt-ltb, le-ltb}
use Rattle.std.proofs.Math.Seq.{take-length}
use Rattle.model.specs.Reading.{Reading, accepted, refused}
use Rattle.model_desk.specs.Desk.{Answer, writes, said, wrote, refusal, short, onto, converted_answer, converted_onto}
use Rattle.answers.specs.declared.Refusal.{Refusal}
use Rattle.answers.specs.declared.Refusal.TheVariants.{BufferTooSmall}
use Rattle.answers.specs.RefusalCases.{number_of, reading_of}
use Rattle.answers.specs.FileCases.{file_read, read_refused}
use Rattle.answers.specs.WrittenCases.{written_shown, bytes_in, refused_no_bytes, converted_bytes}

-- ---- behind the test of the buffer
pub record Settles (x : Reading (List ℕ)) (o : List ℕ) (r : Result ℕ Refusal) (o' : List ℕ) : Type 0 where
  pub answer : written_shown r ≡ converted_answer x
  pub lent : o' ≡ converted_onto x o

module _ (x : Reading (List ℕ)) (o : List ℕ) where
  -- where the reading is refused, so is the call, with that number, and the buffer is as it was
  pub settles_refused : (n : Refusal) → x ≡ refused (number_of n) → Settles x o (Err n) o
  settles_refused n e = record { answer = sym (ap converted_answer e); lent = sym (ap (λ y. converted_onto y o) e) }

  -- a file's refusal, handed upward unchanged
  pub settles_file : {A : Type 0} (y : Reading A) (n : Refusal) {r : Result ⊤ Refusal} → r ≡ Err n → reading_of r ≡ file_read y
      → (y ≡ refused (number_of n) → x ≡ refused (number_of n))
      → Settles x o (Err n) o
  settles_file y n q e h = settles_refused n (h (read_refused y q e))

  -- the bytes, copied
  pub settles_wrote : (bs part : List ℕ) (n : ℕ) (o' : List ℕ) → x ≡ accepted bs → part ≡ bs → n ≡ length part
      → o' ≡ take (length part) part ++ drop (length part) o → Settles x o (Ok n) o'
  settles_wrote bs part n o' e p q s = record {
    answer = ap (λ k. said (wrote k)) (q ∙ ap length p) ∙ sym (ap converted_answer e);
    lent = s ∙ ap (λ z. z ++ drop (length part) o) (take-length part) ∙ ap (λ z. onto z o) p ∙ sym (ap (λ y. converted_onto y o) e);
  }

-- ---- the whole call
abbrev pub answer_by : (size : ℕ) → Reading (List ℕ) → (buffer : List ℕ) → Answer writes
answer_by size x o = cond (short o size) (refusal 15) (converted_answer x)

abbrev pub lent_by : (size : ℕ) → Reading (List ℕ) → (buffer : List ℕ) → List ℕ
lent_by size x o = cond (short o size) o (converted_onto x o)

-- what the whole call answers, and the buffer after it
pub record Answers (size : ℕ) (x : Reading (List ℕ)) (o : List ℕ) (r : Result ℕ Refusal) (o' : List ℕ) : Type 0 where
  pub answer : written_shown r ≡ answer_by size x o
  pub lent : o' ≡ lent_by size x o

module _ (size : ℕ) (x : Reading (List ℕ)) (o : List ℕ) where
  -- 15 before all
  pub answers_short : length o < size → Answers size x o (Err BufferTooSmall) o
  answers_short h = record {
    answer = sym (ap (λ b. cond b (refusal 15) (converted_answer x)) (lt-ltb (length o) size h));
    lent = sym (ap (λ b. cond b o (converted_onto x o)) (lt-ltb (length o) size h));
  }

  -- where the buffer has its size, the whole call answers and leaves what is settled behind the test
  pub answers_settled : {r : Result ℕ Refusal} {o' : List ℕ} → size ≤ length o → Settles x o r o' → Answers size x o r o'
  answers_settled h s = record {
    answer = s.answer ∙ sym (ap (λ b. cond b (refusal 15) (converted_answer x)) (le-ltb (length o) size h));
    lent = s.lent ∙ sym (ap (λ b. cond b o (converted_onto x o)) (le-ltb (length o) size h));
  }

  -- so many bytes are the length of the file
  pub count_of : {r : Result ℕ Refusal} {o' : List ℕ} → Answers size x o r o' → (n : ℕ) → written_shown r ≡ said (wrote n) → (g : List ℕ) → x ≡ accepted g → n ≡ length g
  count_of a n e g p = go (short o size) (sym a.answer ∙ e)
    where
      go : (b : Bool) → cond b (refusal 15) (converted_answer x) ≡ said (wrote n) → n ≡ length g
      go true e = refused_no_bytes e
      go false e = let d : said (wrote (length g)) ≡ said (wrote n) = sym (ap converted_answer p) ∙ e in let q = ap bytes_in d in omega (arith, q)

  -- so many bytes: they are the file, in front of the buffer
  pub wrote_of : {r : Result ℕ Refusal} {o' : List ℕ} → Answers size x o r o' → (n : ℕ) → written_shown r ≡ said (wrote n)
      → (g : List ℕ) × (x ≡ accepted g) × (take n o' ≡ g)
  wrote_of {r} {o'} a n e = go (short o size) (sym a.answer ∙ e) a.lent
    where
      go : (b : Bool) → cond b (refusal 15) (converted_answer x) ≡ said (wrote n) → o' ≡ cond b o (converted_onto x o)
          → (g : List ℕ) × (x ≡ accepted g) × (take n o' ≡ g)
      go true e l = refused_no_bytes e
      go false e l = let (g, p, q) = converted_bytes x o n e in (g, p, ap (take n) l ∙ q)
