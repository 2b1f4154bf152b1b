-- Levels, and a move into another group.
use Rattle.std.specs.Prelude.{refl, pos, ℕ, List, [], ◌∷◌, ◌++◌, Some, None, codes}
use Rattle.sb_log.specs.declared.identifiers.Who.TheVariants.{A, B}
use Rattle.sb_log.specs.declared.definitions.Ddl.TheVariants as ddl
use Rattle.sb_log.specs.declared.messages.Content.TheVariants as content
use Rattle.sb_log.specs.declared.messages.Kind.TheVariants as kind
use Rattle.sb_log.specs.declared.requests.Request.{Request}
use Rattle.sb_log.specs.declared.requests.Request.TheVariants as request
use Rattle.sb_log.specs.declared.requests.Reply.TheVariants as reply
use Rattle.sb_log.specs.declared.requests.Relation.TheVariants as relation
use Rattle.sb_log.specs.declared.steps.Verdict.TheVariants.{New}
use Rattle.sb_log.specs.declared.steps.Step.{Step}
use Rattle.sb_model.specs.Items.{waits_at}
use Rattle.sb_model.proofs.Plays.{Plays, opened_shops, a, b, start_of, far_of, asks, pumps, delivers, begins, submits, submit_line, data_line, receives_from, got_submit, got, defines, service, route_to, submit, orders, buyer, seller, seller_queue, buyer_queue, letter}
use Rattle.sb_log.specs.declared.messages.Header.{Header}
use Rattle.sb_log.specs.declared.messages.ReceivedItem.{ReceivedItem}
use Rattle.sb_log.specs.declared.definitions.Ddl.{Ddl}
use Rattle.sb_log.specs.declared.identifiers.Handle.{Handle}

abbrev rush : List ℕ
rush = codes "Rush"

abbrev header_rush : Header
header_rush = record { from_service = rush; to_service = seller; contract = orders; from = a 0; to = None; expires = 2147483647 }

abbrev priority_for : List ℕ → List ℕ → ℕ → Ddl
priority_for name far level =
    ddl.Priority (record { name = name; contract = None; local = None; remote = Some far; level = pos level })

abbrev more_definitions : List Step
more_definitions =
    defines A (service rush buyer_queue []) ∷ defines B (route_to (codes "ToRush") rush A)
    ∷ defines B (priority_for (codes "Hi") rush 10) ∷ defines B (priority_for (codes "Lo") buyer 1) ∷ []

abbrev rushes : Request
rushes = request.BeginDialog rush seller None (Some orders) relation.Alone None

abbrev second_taken : Handle → ReceivedItem
second_taken g = got 2 (b 3) g (far_of (a 3)) 1 (kind.App submit) (Some (letter 0x32))

-- the higher level comes first, also before the older message of the group that it is moved to
abbrev levels : List Step
levels =
    more_definitions ++ begins (a 1) (a 2) ∷ submits (a 1) 0x31 ∷ asks A rushes (reply.Dialog (a 3) (a 4)) ∷ submits (a 3) 0x32
    ∷ pumps A (submit_line 1 (a 1) 1 0x31 ∷ data_line 2 B (start_of (a 3)) header_rush 1 (content.App submit (Some (letter 0x32))) ∷ [])
    ∷ delivers 1 B New ∷ delivers 2 B New
    ∷ asks B request.Begin (reply.Began 1)
    ∷ asks B (receives_from seller_queue (Some (pos 5))) (reply.Received (second_taken (b 4) ∷ []))
    ∷ asks B request.Rollback (reply.RolledBack 1 []) ∷ asks B (request.Move (b 3) (b 2)) reply.Done
    ∷ asks B (receives_from seller_queue (Some (pos 5))) (reply.Received (second_taken (b 2) ∷ got_submit 1 (b 1) (b 2) (a 1) 1 0x31 ∷ [])) ∷ []

levels_go : Plays opened_shops levels
unfolding waits_at
levels_go = refl
