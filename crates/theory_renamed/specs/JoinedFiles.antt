-- Two roster files joined: what an answer that is no refusal has found, and that the bytes written are accepted, read back as the joined roster
-- and no more than a roster's buffer holds.
use Prim.Native.Nat.{ℕ, zero, suc, ◌≤◌}
use Rattle.std.specs.Prelude.{◌≡◌, List}
use Rattle.std.proofs.Math.Path.{refl, sym, subst}
use Rattle.std.proofs.Math.ListN.{length}
use Rattle.std.proofs.Math.Dec.{T}
use Rattle.lists.specs.Test.{given}
use Rattle.model.specs.Limits.{roster_size}
use Rattle.model.specs.Reading.{Reading, accepted, refused, refuse_by, is_bytes}
use Rattle.model.specs.Roster.{Roster, fits}
use Rattle.model.specs.RosterFile.{read_roster, write_roster}
use Rattle.model_files.specs.Districts.{side_by_side, sums_check, second_to, first_to, join_of, file_of, joined_file}
use Rattle.theory_files.specs.Reads.{accepted_value, refused-not}
use Rattle.theory_files.specs.Rosters.{read_fits}
use Rattle.theory_files.specs.ByLists.{Storable, storable}
use Rattle.theory_renamed.specs.JoinedFits.{Room, no_sums, fits_joined}

pub record BothRead (first second : List ℕ) (J : Roster) : Type 0 where
  pub r : Roster
  pub q : Roster
  pub read₁ : read_roster first ≡ accepted r
  pub read₂ : read_roster second ≡ accepted q
  pub fits₁ : T (fits r)
  pub fits₂ : T (fits q)
  pub room : Room r q
  pub is : J ≡ side_by_side r q

module _ (first second : List ℕ) (bytes₁ : T (is_bytes first)) (bytes₂ : T (is_bytes second)) where
  -- a join that is not refused has accepted both files, has room for them together, and is the two rosters side by side
  pub join_parts : (J : Roster) → join_of first second ≡ accepted J → BothRead first second J
  unfolding join_of
  join_parts J e = by_first (read_roster first) refl e
    where
      by_sums : (r q : Roster) → read_roster first ≡ accepted r → read_roster second ≡ accepted q → T (fits r) → T (fits q)
          → (n : ℕ) → sums_check r q ≡ n → refuse_by n (accepted (side_by_side r q)) ≡ accepted J → BothRead first second J
      by_sums r q a b f g zero s e = record {
        r = r;
        q = q;
        read₁ = a;
        read₂ = b;
        fits₁ = f;
        fits₂ = g;
        room = no_sums r q f g s;
        is = sym (accepted_value e);
      }
      by_sums r q a b f g (suc n) s e = refused-not e

      by_second : (r : Roster) → read_roster first ≡ accepted r → (x : Reading Roster) → read_roster second ≡ x → second_to r x ≡ accepted J
          → BothRead first second J
      by_second r a (accepted q) b e = by_sums r q a b (read_fits first r bytes₁ a) (read_fits second q bytes₂ b) (sums_check r q) refl e
      by_second r a (refused n) b e = refused-not e

      by_first : (x : Reading Roster) → read_roster first ≡ x → first_to x second ≡ accepted J → BothRead first second J
      by_first (accepted r) a e = by_second r a (read_roster second) refl e
      by_first (refused n) a e = refused-not e

  pub join_storable : (J : Roster) → join_of first second ≡ accepted J → Storable J
  join_storable J e = given (join_parts J e) (λ p. subst Storable (sym p.is)
      (storable (side_by_side p.r p.q) (fits_joined p.r p.q p.fits₁ p.fits₂ p.room)))

  -- the bytes that are written
  pub joined_accepted : (bs : List ℕ) → joined_file first second ≡ accepted bs
      → (J : Roster) × (join_of first second ≡ accepted J) × (bs ≡ write_roster J) × (read_roster bs ≡ accepted J) × (length bs ≤ roster_size)
  unfolding joined_file
  joined_accepted bs e = go (join_of first second) refl e
    where
      go : (x : Reading Roster) → join_of first second ≡ x → file_of x ≡ accepted bs
          → (J : Roster) × (join_of first second ≡ accepted J) × (bs ≡ write_roster J) × (read_roster bs ≡ accepted J) × (length bs ≤ roster_size)
      go (accepted J) d e =
          given (join_storable J d) (λ (f, b, l).
          given (accepted_value e) (λ w. (J, d, sym w, subst (λ z. read_roster z ≡ accepted J) w b, subst (λ z. length z ≤ roster_size) w l)))
      go (refused n) d e = refused-not e
