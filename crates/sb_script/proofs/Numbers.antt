-- The number that digits spell, where it stands still past a greatest one.
use Rattle.std.proofs.Common.{◌≡◌, ℕ, ◌+◌, ◌-◌, ◌*◌, ◌<◌, min, List, [], ◌∷◌, length, get_or, drop, sym, ap, ◌∙◌, arith, add-one, drop-cons}
use Rattle.sb_script.specs.Commands.{decimal_from}

capped_once : (x e m : ℕ) → min (min x m * 10 + e) m ≡ min (x * 10 + e) m
capped_once x e m = omega arith

-- cutting the number at any step is cutting it at the end
pub capped_from : (z : List ℕ) (x m : ℕ) → min (decimal_from (min x m) z) m ≡ min (decimal_from x z) m
capped_from [] x m = omega arith
capped_from (d ∷ z) x m =
    sym (capped_from z (min x m * 10 + (d - 48)) m)
    ∙ ap (λ n. min (decimal_from n z) m) (capped_once x (d - 48) m)
    ∙ capped_from z (x * 10 + (d - 48)) m

-- one digit more
pub capped_more : (z : List ℕ) (i n next m all : ℕ) → i < length z → next ≡ min (n * 10 + (get_or z i 0 - 48)) m → min (decimal_from n (drop i z)) m ≡ all → min (decimal_from next (drop (i + 1) z)) m ≡ all
capped_more z i n next m all lt e h =
    let parts : drop i z ≡ get_or z i 0 ∷ drop (i + 1) z = rw add-one (drop-cons z i 0 lt) in
    ap (λ k. min (decimal_from k (drop (i + 1) z)) m) e
    ∙ capped_from (drop (i + 1) z) (n * 10 + (get_or z i 0 - 48)) m
    ∙ ap (λ w. min (decimal_from n w) m) (sym parts)
    ∙ h
