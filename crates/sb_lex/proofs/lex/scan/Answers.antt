use Rattle.std.proofs.Common.{refl, sym, arith, ◌≡◌, ◌<◌, ◌≤◌, length, length-drop}
use Rattle.std.proofs.lemmas.Grind.{common_steps}
use Rattle.std.proofs.lemmas.List.{take_rest}
use Rattle.sb_lex.specs.Lex.{tokens_of, piece_at}
use Rattle.sb_lex.specs.declared.piece.Piece.TheVariants as piece
use Rattle.sb_lex.proofs.Goes.{unlexed_ends, after_gap, after_token}
use Rattle.sb_lex.proofs.lex.scan.Goals as goal
use Rattle.sb_lex.proofs.lex.scan.Goals.{in-Gap, in-Token+in_ok-push-in-Token}

pub pieces-init : goal.pieces-init
unfolding tokens_of
pieces-init c = (rw (c.new-tokens.ensures.items, c.as_bytes-rest.ensures.value) refl, omega (arith, c.as_bytes-rest.ensures.len))

pub returns-in-Unlexed : goal.returns-in-Unlexed
returns-in-Unlexed c = unlexed_ends c.pieces.tokens.items c.pieces.at c.pieces.rest.now (tokens_of c.args.text.now) (grind (arith, common_steps)) (sym c.in-Unlexed.ensures.value) c.pieces.invariant.0

pub pieces-preserved : goal.pieces-preserved
pieces-preserved c =
    let z = c.pieces.rest.now in
    let some : 0 < length z = grind (arith, common_steps) in
    elim c.match-front.branch [
      | in-Gap w ↦
          let within : (0 < w.in-Gap.len) × (w.in-Gap.len ≤ length z) = w.in-Gap.ensures.within in
          let is : piece_at z ≡ piece.Gap w.in-Gap.len = sym w.in-Gap.ensures.value in
          rw (take_rest z c.match-front.len, w.tokens-is, w.len-is) (after_gap c.pieces.tokens.items c.pieces.at w.in-Gap.len z (tokens_of c.args.text.now) some is within.0 c.pieces.invariant.0, omega (arith, length-drop w.in-Gap.len z))
      | in-Token+in_ok-push-in-Token w ↦
          let within : (0 < w.in-Token.len) × (w.in-Token.len ≤ length z) = w.in-Token.ensures.within in
          let pushed = w.in_ok-push-in-Token.ensures.items in
          let is : piece_at z ≡ piece.Token w.in-Token.kind w.in-Token.len = sym w.in-Token.ensures.value in
          rw (take_rest z c.match-front.len, w.tokens-is, w.len-is) (rw pushed (after_token c.pieces.tokens.items c.pieces.at w.in-Token.len w.in-Token.kind z (tokens_of c.args.text.now) some is within.0 c.pieces.invariant.0), omega (arith, length-drop w.in-Token.len z))
    ]
