-- What a conversion of a roster file promises: the model's answer and bytes, and that the other way undoes it; and how that follows from what was
-- read and turned.
use Rattle.std.specs.Prelude.{Result, ⊤}
use Rattle.std.specs.declared.result.Result.TheVariants.{Ok, Err}
use Rattle.std.specs.Prelude.{ℕ, ◌+◌, ◌≤◌, ◌<◌, ◌≡◌, Bool, true, false, not, List, ◌++◌, length, take, drop, get_or, T}
use Rattle.std.proofs.Common.{arith, sym, ap, ◌∙◌, subst, take_all}
use Rattle.lists.specs.Test.{given, true_t, false_t}
use Rattle.model.specs.Limits.{roster_size}
use Rattle.model.specs.Reading.{Reading, accepted, refused, is_bytes}
use Rattle.model.specs.Roster.{Roster}
use Rattle.model.specs.RosterFile.{read_roster_by, write_roster_by}
use Rattle.model_desk.specs.Seasons.{only_first, to_new, to_old}
use Rattle.model_desk.specs.Desk.{said, wrote}
use Rattle.model_desk.specs.SeasonCalls.{file_answer, file_lent}
use Rattle.theory_files.specs.Reads.{bytes_are}
use Rattle.theory_files.specs.Seasons.{back, forth, old_first, new_size, old_size, old_taken, new_taken, new_refused, old_turned_away, new_turned_away}
use Rattle.answers.specs.declared.Refusal.{Refusal}
use Rattle.answers.specs.declared.Refusal.TheVariants.{OtherShift}
use Rattle.answers.specs.RefusalCases.{number_of, reading_of}
use Rattle.answers.specs.FileCases.{file_read}
use Rattle.answers.specs.WrittenCases.{written_shown}
use Rattle.roster_reading.specs.Layout.{layout_of}
use Rattle.roster_parts.specs.Growth.{written}
use Rattle.roster_turned.specs.declared.Turned.{Turned}
use Rattle.roster_turned.specs.Blocks.{RosterTurned}
use Rattle.roster_turned.specs.Turning.{turned_is}
use Rattle.answers.specs.Settling.{Settles, settles_refused, settles_file, settles_wrote, Answers, wrote_of}

-- the promise of a conversion: `to` is the way that is gone, `undo` the other one
pub record Converts (to undo : List ℕ → Reading (List ℕ)) (f o : List ℕ) (r : Result ℕ Refusal) (o' : List ℕ) : Type 0 where
  -- 15, or the file's refusal, or 19, each with its group, or the number of bytes written
  pub answer : written_shown r ≡ file_answer (to f) o
  -- they are in front of the buffer, which keeps the rest; a refusal changes no byte
  pub lent : o' ≡ file_lent (to f) o
  -- "goes back to the identical old bytes": what is written is turned into the identical file by the other way
  pub undone : (n : ℕ) → written_shown r ≡ said (wrote n) → undo (take n o') ≡ accepted f

-- ---- the way by the layout that is read
abbrev pub turn_by : (shifts : Bool) → List ℕ → Reading (List ℕ)
turn_by true = to_old
turn_by false = to_new

abbrev pub Accepted : (shifts : Bool) → List ℕ → Type 0
Accepted shifts f = (r : Roster) × (read_roster_by (layout_of shifts) f ≡ accepted r)

-- "goes back to the identical old bytes"
undoes : (shifts : Bool) (f g : List ℕ) → T (is_bytes f) → turn_by shifts f ≡ accepted g → turn_by (not shifts) g ≡ accepted f
undoes true f g is_b e = forth g f is_b e
undoes false f g is_b e = back f g is_b e

pub converts : (shifts : Bool) (f o : List ℕ) {r : Result ℕ Refusal} {o' : List ℕ} → ((i : ℕ) → get_or f i 0 < 256) → Answers roster_size (turn_by shifts f) o r o'
    → Converts (turn_by shifts) (turn_by (not shifts)) f o r o'
unfolding file_answer file_lent
converts shifts f o {r} {o'} low a = record {
  answer = a.answer;
  lent = a.lent;
  undone = λ n e. given (wrote_of roster_size (turn_by shifts f) o a n e) (λ (g, p, t). ap (turn_by (not shifts)) t ∙ undoes shifts f g (bytes_are f low) p);
}

-- ---- a file that the reader refuses
module _ (shifts : Bool) (f o : List ℕ) where
  turn_refused : (n : ℕ) → read_roster_by (layout_of shifts) f ≡ refused n → turn_by shifts f ≡ refused n
  turn_refused n e = go shifts e
    where
      go : (b : Bool) → read_roster_by (layout_of b) f ≡ refused n → turn_by b f ≡ refused n
      go true e = new_turned_away f n e
      go false e = old_turned_away f n e

  pub file_turned : (n : Refusal) {s : Result ⊤ Refusal} → s ≡ Err n → reading_of s ≡ file_read (read_roster_by (layout_of shifts) f)
      → Settles (turn_by shifts f) o (Err n) o
  file_turned n q e = settles_file (turn_by shifts f) o (read_roster_by (layout_of shifts) f) n q e (turn_refused (number_of n))

-- ---- an accepted file
module _ (shifts : Bool) (f : List ℕ) (is_b : T (is_bytes f)) (r : Roster) (a : read_roster_by (layout_of shifts) f ≡ accepted r) where
  abbrev other : List ℕ
  other = write_roster_by (layout_of (not shifts)) r

  turn_first : only_first r ≡ true → turn_by shifts f ≡ accepted other
  turn_first o = go shifts a
    where
      go : (b : Bool) → read_roster_by (layout_of b) f ≡ accepted r → turn_by b f ≡ accepted (write_roster_by (layout_of (not b)) r)
      go true a = new_taken f r a (true_t o)
      go false a = old_taken f r a

  turn_other : only_first r ≡ false → turn_by shifts f ≡ refused 19
  turn_other o = go shifts a
    where
      go : (b : Bool) → read_roster_by (layout_of b) f ≡ accepted r → turn_by b f ≡ refused 19
      go true a = new_refused f r a (false_t o)
      go false a = absurd (subst T o (old_first f r is_b a))

  fits_buffer : turn_by shifts f ≡ accepted other → length other ≤ roster_size
  fits_buffer e = go shifts e
    where
      go : (b : Bool) → turn_by b f ≡ accepted (write_roster_by (layout_of (not b)) r) → length (write_roster_by (layout_of (not b)) r) ≤ roster_size
      go true e = omega (arith, old_size (write_roster_by (layout_of false) r) f is_b e)
      go false e = new_size f (write_roster_by (layout_of true) r) is_b e

  module _ (ns nt : ℕ) (d_s : ns ≡ get_or f 0 0) (d_t : nt ≡ get_or f (ns + 1) 0) (t : Turned) (k : RosterTurned shifts ns nt f t) where
    same_first : t.first ≡ only_first r
    same_first = k.first ∙ (turned_is shifts f is_b r a ns nt d_s d_t).1

    -- another shift
    pub other_turned : (o : List ℕ) → t.first ≡ false → Settles (turn_by shifts f) o (Err OtherShift) o
    other_turned o h = settles_refused (turn_by shifts f) o OtherShift (turn_other (sym same_first ∙ h))

    -- its bytes, copied
    pub front_copied : (o part : List ℕ) (n : ℕ) (o' : List ℕ) → t.first ≡ true → part ≡ written t.roster → n ≡ length part
        → o' ≡ take (length part) part ++ drop (length part) o → Settles (turn_by shifts f) o (Ok n) o'
    front_copied o part n o' h p q s =
        let e = turn_first (sym same_first ∙ h) in
        let bs : part ≡ other = p ∙ k.bytes.front ∙ ap (take roster_size) (turned_is shifts f is_b r a ns nt d_s d_t).0 ∙ take_all roster_size other (fits_buffer e) in
        settles_wrote (turn_by shifts f) o other part n o' e bs q s
