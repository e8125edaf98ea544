-- A file copied over the front of an array.
use Rattle.std.specs.Prelude.{ℕ, ◌≤◌, ◌≡◌, List, ◌++◌, length, take, drop}
use Rattle.std.proofs.Common.{arith, ap, ◌∙◌}
use Rattle.std.proofs.Math.Seq.{take-length, take-append_seam}

pub front_copied : (file array : List ℕ) {n : ℕ} {after : List ℕ} → n ≡ length file → after ≡ take (length file) file ++ drop (length file) array
    → take n after ≡ file
front_copied file array {n} {after} e q =
    ap (λ k. take k after) e ∙ ap (take (length file)) (q ∙ ap (λ l. l ++ drop (length file) array) (take-length file))
    ∙ take-append_seam file (drop (length file) array)

-- a file no longer than the array's size has room in it
pub front_room : {n : ℕ} (file array : List ℕ) → length file ≤ n → length array ≡ n → length file ≤ length array
front_room file array h e = omega arith
