-- A name that is new in its kind is found in no table.
use Rattle.std.proofs.Common.{◌≡◌, true, refl, ap, sym, ◌∙◌}
use Rattle.std.specs.Prelude.{Option, Some, None, IsTrue, find, is_none}
use Rattle.sb_log.specs.declared.definitions.Ddl.{Ddl}
use Rattle.sb_log.specs.declared.definitions.Ddl.TheVariants.{MessageType, Contract, Queue, Service, Route, Priority, Table, Procedure}
use Rattle.sb_log.specs.declared.definitions.MessageDef.{MessageDef}
use Rattle.sb_log.specs.declared.definitions.ContractDef.{ContractDef}
use Rattle.sb_log.specs.declared.definitions.QueueDef.{QueueDef}
use Rattle.sb_log.specs.declared.definitions.ServiceDef.{ServiceDef}
use Rattle.sb_log.specs.declared.definitions.RouteDef.{RouteDef}
use Rattle.sb_log.specs.declared.definitions.PriorityDef.{PriorityDef}
use Rattle.sb_log.specs.declared.definitions.TableDef.{TableDef}
use Rattle.sb_log.specs.declared.definitions.ProcedureDef.{ProcedureDef}
use Rattle.sb_model.specs.Sides.{same_name}
use Rattle.sb_model.specs.Catalog.{find_message_type, find_contract, find_queue, find_service, find_table, find_procedure, routes, priorities}
use Rattle.sb_catalog.specs.declared.catalog.Catalog.TheInside.{Inside}
use Rattle.sb_catalog.specs.Inside.{known, IsSound}
use Rattle.sb_catalog.specs.Known.{Known, is_new, log_of}
use Rattle.sb_catalog.specs.Tables.{found}
use Rattle.sb_catalog.proofs.Finding.{type_found, contract_found, queue_found, service_found, route_found, priority_found, table_found, procedure_found}

none_there : {A : Type 0} (o : Option A) → is_none o ≡ true → o ≡ None
none_there None e = refl
none_there (Some x) e = cc

module _ (i : Inside) (sound : IsSound i) (k : Known) (view : known i ≡ k) (ddl : Ddl) (new : IsTrue (is_new (log_of k) ddl)) where
  told : (e : Ddl) → ddl ≡ e → is_new (log_of k) e ≡ true
  told e is = ap (λ (x : Ddl). is_new (log_of k) x) (sym is) ∙ new

  pub type_is_new : (d : MessageDef) → ddl ≡ MessageType d → found (λ x. x.name) i.message_types.defs d.name ≡ None
  type_is_new d is = type_found i d.name sound ∙ ap (λ (l : Known). find_message_type (log_of l) d.name) view ∙ none_there (find_message_type (log_of k) d.name) (told (MessageType d) is)

  pub contract_is_new : (d : ContractDef) → ddl ≡ Contract d → found (λ x. x.name) i.contracts.defs d.name ≡ None
  contract_is_new d is = contract_found i d.name sound ∙ ap (λ (l : Known). find_contract (log_of l) d.name) view ∙ none_there (find_contract (log_of k) d.name) (told (Contract d) is)

  pub queue_is_new : (d : QueueDef) → ddl ≡ Queue d → found (λ x. x.name) i.queues.defs d.name ≡ None
  queue_is_new d is = queue_found i d.name ∙ ap (λ (l : Known). find_queue (log_of l) d.name) view ∙ none_there (find_queue (log_of k) d.name) (told (Queue d) is)

  pub service_is_new : (d : ServiceDef) → ddl ≡ Service d → found (λ x. x.name) i.services.defs d.name ≡ None
  service_is_new d is = service_found i d.name ∙ ap (λ (l : Known). find_service (log_of l) d.name) view ∙ none_there (find_service (log_of k) d.name) (told (Service d) is)

  pub route_is_new : (d : RouteDef) → ddl ≡ Route d → found (λ x. x.name) i.routes.defs d.name ≡ None
  route_is_new d is = route_found i d.name sound ∙ ap (λ (l : Known). find (λ r. same_name r.name d.name) (routes (log_of l))) view ∙ none_there (find (λ r. same_name r.name d.name) (routes (log_of k))) (told (Route d) is)

  pub priority_is_new : (d : PriorityDef) → ddl ≡ Priority d → found (λ x. x.name) i.priorities.defs d.name ≡ None
  priority_is_new d is = priority_found i d.name ∙ ap (λ (l : Known). find (λ r. same_name r.name d.name) (priorities (log_of l))) view ∙ none_there (find (λ r. same_name r.name d.name) (priorities (log_of k))) (told (Priority d) is)

  pub table_is_new : (d : TableDef) → ddl ≡ Table d → found (λ x. x.name) i.tables.defs d.name ≡ None
  table_is_new d is = table_found i d.name ∙ ap (λ (l : Known). find_table (log_of l) d.name) view ∙ none_there (find_table (log_of k) d.name) (told (Table d) is)

  pub procedure_is_new : (d : ProcedureDef) → ddl ≡ Procedure d → found (λ x. x.name) i.procedures.defs d.name ≡ None
  procedure_is_new d is = procedure_found i d.name ∙ ap (λ (l : Known). find_procedure (log_of l) d.name) view ∙ none_there (find_procedure (log_of k) d.name) (told (Procedure d) is)
