-- The log of just what is known has each kind's definitions in order.
use Rattle.std.proofs.Common.{◌≡◌, List, [], ◌∷◌, ◌++◌, refl, ap, ◌∙◌}
use Rattle.std.specs.Prelude.{flat_map, map}
use Rattle.std.proofs.lemmas.Grind.{flat_map-append}
use Rattle.std.proofs.lemmas.List.{append-nil}
use Rattle.sb_log.specs.declared.definitions.Ddl.{Ddl}
use Rattle.sb_log.specs.declared.definitions.Ddl.TheVariants.{MessageType, Contract, Queue, Service, Route, Priority, Table, Procedure}
use Rattle.sb_log.specs.declared.entries.Entry.TheVariants.{Defined}
use Rattle.sb_model.specs.Catalog.{definitions, message_def, contract_def, queue_def, service_def, route_def, priority_def, table_def, procedure_def}
use Rattle.sb_catalog.specs.Known.{Known, all_definitions, log_of}

pub definitions_of_defined : (ds : List Ddl) → definitions (map Defined ds) ≡ ds
definitions_of_defined [] = refl
definitions_of_defined (d ∷ ds) = ap (λ xs. d ∷ xs) (definitions_of_defined ds)

own : {A : Type 0} (f : Ddl → List A) (c : A → Ddl) → ((x : A) → f (c x) ≡ x ∷ []) → (xs : List A) → flat_map f (map c xs) ≡ xs
own f c one [] = refl
own f c one (x ∷ xs) = ap (λ ys. ys ++ flat_map f (map c xs)) (one x) ∙ ap (λ ys. x ∷ ys) (own f c one xs)

none : {A B : Type 0} (f : Ddl → List A) (c : B → Ddl) → ((x : B) → f (c x) ≡ []) → (xs : List B) → flat_map f (map c xs) ≡ []
none f c gone [] = refl
none f c gone (x ∷ xs) = ap (λ ys. ys ++ flat_map f (map c xs)) (gone x) ∙ none f c gone xs

-- a list made of all definitions, part by part
parts : {A : Type 0} (f : Ddl → List A) (k : Known) (m c q s r p t u : List A)
    → flat_map f (map MessageType k.message_types) ≡ m → flat_map f (map Contract k.contracts) ≡ c
    → flat_map f (map Queue k.queues) ≡ q → flat_map f (map Service k.services) ≡ s
    → flat_map f (map Route k.routes) ≡ r → flat_map f (map Priority k.priorities) ≡ p
    → flat_map f (map Table k.tables) ≡ t → flat_map f (map Procedure k.procedures) ≡ u
    → flat_map f (definitions (log_of k)) ≡ m ++ (c ++ (q ++ (s ++ (r ++ (p ++ (t ++ u))))))
parts {A} f k m c q s r p t u hm hc hq hs hr hp ht hu =
    ap (flat_map f) (definitions_of_defined (all_definitions k))
    ∙ joined (map MessageType k.message_types) _ m _ hm
    (joined (map Contract k.contracts) _ c _ hc
    (joined (map Queue k.queues) _ q _ hq
    (joined (map Service k.services) _ s _ hs
    (joined (map Route k.routes) _ r _ hr
    (joined (map Priority k.priorities) _ p _ hp
    (joined (map Table k.tables) (map Procedure k.procedures) t u ht hu))))))
  where
    joined : (xs ys : List Ddl) (a b : List A) → flat_map f xs ≡ a → flat_map f ys ≡ b → flat_map f (xs ++ ys) ≡ a ++ b
    joined xs ys a b ha hb = flat_map-append f xs ys ∙ ap (λ z. z ++ flat_map f ys) ha ∙ ap (λ z. a ++ z) hb

pub message_types_known : (k : Known) → flat_map message_def (definitions (log_of k)) ≡ k.message_types
message_types_known k =
    parts message_def k k.message_types [] [] [] [] [] [] []
    (own message_def MessageType (λ x. refl) k.message_types)
    (none message_def Contract (λ x. refl) k.contracts)
    (none message_def Queue (λ x. refl) k.queues)
    (none message_def Service (λ x. refl) k.services)
    (none message_def Route (λ x. refl) k.routes)
    (none message_def Priority (λ x. refl) k.priorities)
    (none message_def Table (λ x. refl) k.tables)
    (none message_def Procedure (λ x. refl) k.procedures)
    ∙ append-nil k.message_types

pub contracts_known : (k : Known) → flat_map contract_def (definitions (log_of k)) ≡ k.contracts
contracts_known k =
    parts contract_def k [] k.contracts [] [] [] [] [] []
    (none contract_def MessageType (λ x. refl) k.message_types)
    (own contract_def Contract (λ x. refl) k.contracts)
    (none contract_def Queue (λ x. refl) k.queues)
    (none contract_def Service (λ x. refl) k.services)
    (none contract_def Route (λ x. refl) k.routes)
    (none contract_def Priority (λ x. refl) k.priorities)
    (none contract_def Table (λ x. refl) k.tables)
    (none contract_def Procedure (λ x. refl) k.procedures)
    ∙ append-nil k.contracts

pub queues_known : (k : Known) → flat_map queue_def (definitions (log_of k)) ≡ k.queues
queues_known k =
    parts queue_def k [] [] k.queues [] [] [] [] []
    (none queue_def MessageType (λ x. refl) k.message_types)
    (none queue_def Contract (λ x. refl) k.contracts)
    (own queue_def Queue (λ x. refl) k.queues)
    (none queue_def Service (λ x. refl) k.services)
    (none queue_def Route (λ x. refl) k.routes)
    (none queue_def Priority (λ x. refl) k.priorities)
    (none queue_def Table (λ x. refl) k.tables)
    (none queue_def Procedure (λ x. refl) k.procedures)
    ∙ append-nil k.queues

pub services_known : (k : Known) → flat_map service_def (definitions (log_of k)) ≡ k.services
services_known k =
    parts service_def k [] [] [] k.services [] [] [] []
    (none service_def MessageType (λ x. refl) k.message_types)
    (none service_def Contract (λ x. refl) k.contracts)
    (none service_def Queue (λ x. refl) k.queues)
    (own service_def Service (λ x. refl) k.services)
    (none service_def Route (λ x. refl) k.routes)
    (none service_def Priority (λ x. refl) k.priorities)
    (none service_def Table (λ x. refl) k.tables)
    (none service_def Procedure (λ x. refl) k.procedures)
    ∙ append-nil k.services

pub routes_known : (k : Known) → flat_map route_def (definitions (log_of k)) ≡ k.routes
routes_known k =
    parts route_def k [] [] [] [] k.routes [] [] []
    (none route_def MessageType (λ x. refl) k.message_types)
    (none route_def Contract (λ x. refl) k.contracts)
    (none route_def Queue (λ x. refl) k.queues)
    (none route_def Service (λ x. refl) k.services)
    (own route_def Route (λ x. refl) k.routes)
    (none route_def Priority (λ x. refl) k.priorities)
    (none route_def Table (λ x. refl) k.tables)
    (none route_def Procedure (λ x. refl) k.procedures)
    ∙ append-nil k.routes

pub priorities_known : (k : Known) → flat_map priority_def (definitions (log_of k)) ≡ k.priorities
priorities_known k =
    parts priority_def k [] [] [] [] [] k.priorities [] []
    (none priority_def MessageType (λ x. refl) k.message_types)
    (none priority_def Contract (λ x. refl) k.contracts)
    (none priority_def Queue (λ x. refl) k.queues)
    (none priority_def Service (λ x. refl) k.services)
    (none priority_def Route (λ x. refl) k.routes)
    (own priority_def Priority (λ x. refl) k.priorities)
    (none priority_def Table (λ x. refl) k.tables)
    (none priority_def Procedure (λ x. refl) k.procedures)
    ∙ append-nil k.priorities

pub tables_known : (k : Known) → flat_map table_def (definitions (log_of k)) ≡ k.tables
tables_known k =
    parts table_def k [] [] [] [] [] [] k.tables []
    (none table_def MessageType (λ x. refl) k.message_types)
    (none table_def Contract (λ x. refl) k.contracts)
    (none table_def Queue (λ x. refl) k.queues)
    (none table_def Service (λ x. refl) k.services)
    (none table_def Route (λ x. refl) k.routes)
    (none table_def Priority (λ x. refl) k.priorities)
    (own table_def Table (λ x. refl) k.tables)
    (none table_def Procedure (λ x. refl) k.procedures)
    ∙ append-nil k.tables

pub procedures_known : (k : Known) → flat_map procedure_def (definitions (log_of k)) ≡ k.procedures
procedures_known k =
    parts procedure_def k [] [] [] [] [] [] [] k.procedures
    (none procedure_def MessageType (λ x. refl) k.message_types)
    (none procedure_def Contract (λ x. refl) k.contracts)
    (none procedure_def Queue (λ x. refl) k.queues)
    (none procedure_def Service (λ x. refl) k.services)
    (none procedure_def Route (λ x. refl) k.routes)
    (none procedure_def Priority (λ x. refl) k.priorities)
    (none procedure_def Table (λ x. refl) k.tables)
    (own procedure_def Procedure (λ x. refl) k.procedures)
