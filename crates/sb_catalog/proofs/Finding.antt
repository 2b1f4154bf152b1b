-- What a table finds is what the log of just these definitions has.
use Rattle.std.proofs.Common.{◌≡◌, List, [], ◌∷◌, refl, ap, sym, ◌∙◌}
use Rattle.std.specs.Prelude.{find, map}
use Rattle.sb_log.specs.declared.refusals.Refusal.{Refusal}
use Rattle.sb_model.specs.Definitions.{listed}
use Rattle.sb_model.specs.Sides.{Bytes, same_name}
use Rattle.sb_model.specs.Catalog.{auto_route, default_contract, default_type, find_message_type, find_contract, find_queue, find_service, find_table, find_procedure, routes, priorities}
use Rattle.sb_catalog.specs.declared.catalog.Catalog.TheInside.{Inside}
use Rattle.sb_catalog.specs.Inside.{known, IsSound}
use Rattle.sb_catalog.specs.Known.{log_of}
use Rattle.sb_catalog.specs.Tables.{found}
use Rattle.sb_catalog.proofs.Parts.{message_types_known, contracts_known, queues_known, services_known, routes_known, priorities_known, tables_known, procedures_known}

module _ (c : Inside) (name : Bytes) where
  pub type_found : IsSound c → found (λ d. d.name) c.message_types.defs name ≡ find_message_type (log_of (known c)) name
  type_found h = ap (λ ds. found (λ d. d.name) ds name) (h.message_types ∙ ap (λ ds. default_type ∷ ds) (sym (message_types_known (known c))))

  pub contract_found : IsSound c → found (λ d. d.name) c.contracts.defs name ≡ find_contract (log_of (known c)) name
  contract_found h = ap (λ ds. found (λ d. d.name) ds name) (h.contracts ∙ ap (λ ds. default_contract ∷ ds) (sym (contracts_known (known c))))

  pub queue_found : found (λ d. d.name) c.queues.defs name ≡ find_queue (log_of (known c)) name
  queue_found = ap (λ ds. found (λ d. d.name) ds name) (sym (queues_known (known c)))

  pub service_found : found (λ d. d.name) c.services.defs name ≡ find_service (log_of (known c)) name
  service_found = ap (λ ds. found (λ d. d.name) ds name) (sym (services_known (known c)))

  pub route_found : IsSound c → found (λ d. d.name) c.routes.defs name ≡ find (λ r. same_name r.name name) (routes (log_of (known c)))
  route_found h = ap (λ ds. found (λ d. d.name) ds name) (h.routes ∙ ap (λ ds. auto_route ∷ ds) (sym (routes_known (known c))))

  pub priority_found : found (λ d. d.name) c.priorities.defs name ≡ find (λ r. same_name r.name name) (priorities (log_of (known c)))
  priority_found = ap (λ ds. found (λ d. d.name) ds name) (sym (priorities_known (known c)))

  pub table_found : found (λ d. d.name) c.tables.defs name ≡ find_table (log_of (known c)) name
  table_found = ap (λ ds. found (λ d. d.name) ds name) (sym (tables_known (known c)))

  pub procedure_found : found (λ d. d.name) c.procedures.defs name ≡ find_procedure (log_of (known c)) name
  procedure_found = ap (λ ds. found (λ d. d.name) ds name) (sym (procedures_known (known c)))

pub types_listed : (c : Inside) → IsSound c → (refuse : Bytes → Refusal) (names : List Bytes) → listed (found (λ d. d.name) c.message_types.defs) refuse [] names ≡ listed (find_message_type (log_of (known c))) refuse [] names
types_listed c h refuse names = ap (λ ds. listed (found (λ d. d.name) ds) refuse [] names) (h.message_types ∙ ap (λ ds. default_type ∷ ds) (sym (message_types_known (known c))))

pub contracts_listed : (c : Inside) → IsSound c → (refuse : Bytes → Refusal) (names : List Bytes) → listed (found (λ d. d.name) c.contracts.defs) refuse [] names ≡ listed (find_contract (log_of (known c))) refuse [] names
contracts_listed c h refuse names = ap (λ ds. listed (found (λ d. d.name) ds) refuse [] names) (h.contracts ∙ ap (λ ds. default_contract ∷ ds) (sym (contracts_known (known c))))

pub themselves : {A : Type 0} (xs : List A) → map (λ x. x) xs ≡ xs
themselves [] = refl
themselves (x ∷ xs) = ap (λ ys. x ∷ ys) (themselves xs)
