-- Sides and handles are told apart by a test.
use Rattle.std.proofs.Common.{◌≡◌, ℕ, Bool, true, false, refl, ◌∙◌, ap, eqb}
use Rattle.std.specs.Prelude.{◌&&◌}
use Rattle.std.specs.Bool.{beq}
use Rattle.std.proofs.lemmas.Bool.{eqb-true}
use Rattle.std.specs.Cmp.{nat_eq_equiv, bool_eq_equiv}
use Rattle.sb_log.specs.declared.identifiers.Handle.{Handle}
use Rattle.sb_log.specs.declared.identifiers.SideId.{SideId}
use Rattle.sb_model.specs.Sides.{same_side, same_id}

both_left : (a b : Bool) → (a && b) ≡ true → a ≡ true
both_left true b e = refl
both_left false b e = e

both_right : (a b : Bool) → (a && b) ≡ true → b ≡ true
both_right true b e = e
both_right false b e = cc

beq_same : (a b : Bool) → beq a b ≡ true → a ≡ b
beq_same true true e = refl
beq_same true false e = cc
beq_same false true e = cc
beq_same false false e = refl

pub sides_same : (a b : SideId) → same_side a b ≡ true → a ≡ b
sides_same a b e =
    let c : a.conversation.0 ≡ b.conversation.0 = eqb-true a.conversation.0 b.conversation.0 (both_left (eqb a.conversation.0 b.conversation.0) (beq a.initiator b.initiator) e) in
    let i : a.initiator ≡ b.initiator = beq_same a.initiator b.initiator (both_right (eqb a.conversation.0 b.conversation.0) (beq a.initiator b.initiator) e) in
    let make : ℕ → Bool → SideId = λ n x. record { conversation = record { 0 = n }; initiator = x } in
    ap (λ n. make n a.initiator) c ∙ ap (make b.conversation.0) i

pub side_symm : (a b : SideId) → same_side a b ≡ same_side b a
side_symm a b =
    ap (λ c. c && beq a.initiator b.initiator) (nat_eq_equiv.symm a.conversation.0 b.conversation.0)
    ∙ ap (λ c. eqb b.conversation.0 a.conversation.0 && c) (bool_eq_equiv.symm a.initiator b.initiator)

pub handles_same : (a b : Handle) → same_id a b ≡ true → a ≡ b
handles_same a b e =
    let make : ℕ → Handle = λ n. record { 0 = n } in
    ap make (eqb-true a.0 b.0 e)
