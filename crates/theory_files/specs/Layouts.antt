-- What the laws ask of a layout, and that the two layouts have it: with shifts an entry is two bytes, without it is one and means shift 1.
use Rattle.std.specs.Prelude.{ℕ, ◌≡◌, refl, Bool, true, List, [], ◌∷◌, length, T, eqb}
use Rattle.std.proofs.Common.{sym, ap, ap₂, ◌∙◌, subst, eqb→eq}
use Rattle.lists.specs.Test.{given}
use Rattle.model.specs.Reading.{accepted, byte, two_bytes}
use Rattle.model.specs.Roster.{Entry}
use Rattle.model.specs.RosterFile.{Layout, shifted, plain}
use Rattle.model_desk.specs.Seasons.{is_first}
use Rattle.model.specs.PlanFile.{Named, PairLayout, three_bytes, shifted_pair, plain_pair}
use Rattle.theory_files.specs.Reads.{Reads, read_value, read_rest, refused-not, then_read, byte_read, two_bytes_read}

-- the entries that a layout can hold are written and read back the same, each in as many bytes as any other
pub record Agrees (L : Layout) : Type 0 where
  pub holds : Entry → Bool  -- the entries that it can hold
  pub reads : Reads L.field L.bytes (λ x. T (holds x))
  pub width : ℕ  -- the bytes of an entry
  pub wide : (x : Entry) → length (L.bytes x) ≡ width

-- ---- with shifts: every entry
pub reads_shifted : Reads shifted.field shifted.bytes (λ x. T true)
reads_shifted = record {
  back = λ bs x rest t e. given (then_read (two_bytes bs) (λ w rest. accepted (record { number = w.0; shift = w.1 }, rest)) e) (λ (w, mid, e₁, h₁).
      (two_bytes_read bs e₁ ∙ ap (λ z. w.0 ∷ w.1 ∷ z) (read_rest h₁) ∙ ap (λ (y : Entry). y.number ∷ y.shift ∷ rest) (read_value h₁), tt));
  forth = λ x rest p. refl;
}

-- the layout with shifts holds every entry, in two bytes
abbrev pub in_shifted : Agrees shifted
in_shifted = record { holds = λ x. true; reads = reads_shifted; width = 2; wide = λ x. refl }

-- ---- without: those of shift 1
pub reads_plain : Reads plain.field plain.bytes (λ x. T (is_first x))
reads_plain = record {
  back = λ bs x rest t e. given (then_read (byte bs) (λ n rest. accepted (record { number = n; shift = 1 }, rest)) e) (λ (n, mid, e₁, h₁).
      (byte_read bs e₁ ∙ ap (λ z. n ∷ z) (read_rest h₁) ∙ ap (λ (y : Entry). y.number ∷ rest) (read_value h₁), subst (λ y. T (is_first y)) (read_value h₁) tt));
  forth = λ x rest p. ap (λ k. accepted (record { number = x.number; shift = k }, rest)) (sym (eqb→eq x.shift 1 p));
}

-- the layout without shifts holds the entries of shift 1, in one byte
abbrev pub in_plain : Agrees plain
in_plain = record { holds = is_first; reads = reads_plain; width = 1; wide = λ x. refl }

-- ---- the same for the pairs of a plan
-- the pairs that a layout can hold are written and read back the same, each in as many bytes as any other
pub record PairAgrees (L : PairLayout) : Type 0 where
  pub holds : Named → Bool
  pub reads : Reads L.field L.bytes (λ p. T (holds p))
  pub width : ℕ
  pub wide : (p : Named) → length (L.bytes p) ≡ width

three_bytes_read : (bs : List ℕ) {p : Named} {rest : List ℕ} → three_bytes bs ≡ accepted (p, rest) → bs ≡ p.surveyor ∷ p.stand ∷ p.shift ∷ rest
three_bytes_read [] e = refused-not e
three_bytes_read (x ∷ []) e = refused-not e
three_bytes_read (x ∷ y ∷ []) e = refused-not e
three_bytes_read (x ∷ y ∷ z ∷ bs) e = ap₂ (λ (p : Named) zs. p.surveyor ∷ p.stand ∷ p.shift ∷ zs) (read_value e) (read_rest e)

pub reads_shifted_pair : Reads shifted_pair.field shifted_pair.bytes (λ p. T true)
reads_shifted_pair = record { back = λ bs p rest t e. (three_bytes_read bs e, tt); forth = λ p rest h. refl }

-- with its shift every pair can be held, in three bytes
abbrev pub in_shifted_pair : PairAgrees shifted_pair
in_shifted_pair = record { holds = λ p. true; reads = reads_shifted_pair; width = 3; wide = λ p. refl }

pub reads_plain_pair : Reads plain_pair.field plain_pair.bytes (λ p. T (eqb p.shift 1))
reads_plain_pair = record {
  back = λ bs p rest t e. given (then_read (two_bytes bs) (λ w rest. accepted (record { surveyor = w.0; stand = w.1; shift = 1 }, rest)) e)
      (λ (w, mid, e₁, h₁). (
        two_bytes_read bs e₁ ∙ ap (λ z. w.0 ∷ w.1 ∷ z) (read_rest h₁) ∙ ap (λ (q : Named). q.surveyor ∷ q.stand ∷ rest) (read_value h₁),
        subst (λ q. T (eqb q.shift 1)) (read_value h₁) tt,
      ));
  forth = λ p rest h. ap (λ k. accepted (record { surveyor = p.surveyor; stand = p.stand; shift = k }, rest)) (sym (eqb→eq p.shift 1 h));
}

-- without shifts the pairs of shift 1 can be held, in two bytes
abbrev pub in_plain_pair : PairAgrees plain_pair
in_plain_pair = record { holds = λ p. eqb p.shift 1; reads = reads_plain_pair; width = 2; wide = λ p. refl }
