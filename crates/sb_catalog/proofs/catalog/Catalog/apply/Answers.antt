use Rattle.sb_catalog.proofs.Newness.{type_is_new, contract_is_new, queue_is_new, service_is_new, route_is_new, priority_is_new, table_is_new, procedure_is_new}
use Rattle.sb_catalog.proofs.catalog.Catalog.apply.Goals as goal

pub add-requires-clause-new : goal.add-requires-clause-new
add-requires-clause-new c = type_is_new c.self.inside c.self.invariant c.args.self.now c.self.view_is c.args.ddl c.requires.new c.in-MessageType.def c.in-MessageType.is

pub add-requires-in-Contract-clause-new : goal.add-requires-in-Contract-clause-new
add-requires-in-Contract-clause-new c = contract_is_new c.self.inside c.self.invariant c.args.self.now c.self.view_is c.args.ddl c.requires.new c.in-Contract.def c.in-Contract.is

pub add-requires-in-Queue-clause-new : goal.add-requires-in-Queue-clause-new
add-requires-in-Queue-clause-new c = queue_is_new c.self.inside c.self.invariant c.args.self.now c.self.view_is c.args.ddl c.requires.new c.in-Queue.def c.in-Queue.is

pub add-requires-in-Service-clause-new : goal.add-requires-in-Service-clause-new
add-requires-in-Service-clause-new c = service_is_new c.self.inside c.self.invariant c.args.self.now c.self.view_is c.args.ddl c.requires.new c.in-Service.def c.in-Service.is

pub add-requires-in-Route-clause-new : goal.add-requires-in-Route-clause-new
add-requires-in-Route-clause-new c = route_is_new c.self.inside c.self.invariant c.args.self.now c.self.view_is c.args.ddl c.requires.new c.in-Route.def c.in-Route.is

pub add-requires-in-Priority-clause-new : goal.add-requires-in-Priority-clause-new
add-requires-in-Priority-clause-new c = priority_is_new c.self.inside c.self.invariant c.args.self.now c.self.view_is c.args.ddl c.requires.new c.in-Priority.def c.in-Priority.is

pub add-requires-in-Table-clause-new : goal.add-requires-in-Table-clause-new
add-requires-in-Table-clause-new c = table_is_new c.self.inside c.self.invariant c.args.self.now c.self.view_is c.args.ddl c.requires.new c.in-Table.def c.in-Table.is

pub add-requires-in-Procedure-clause-new : goal.add-requires-in-Procedure-clause-new
add-requires-in-Procedure-clause-new c = procedure_is_new c.self.inside c.self.invariant c.args.self.now c.self.view_is c.args.ddl c.requires.new c.in-Procedure.def c.in-Procedure.is
