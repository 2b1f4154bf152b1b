-- The kinds of definitions: names are unique within one kind.
use Rattle.sb_log.specs.declared.definitions.Ddl.{Ddl}
use Rattle.sb_log.specs.declared.definitions.Ddl.TheVariants.{MessageType, Contract, Queue, Service, Route, Priority, Table, Procedure}
use Rattle.sb_model.specs.Sides.{Bytes}
use Rattle.sb_catalog.specs.declared.kinds.Kind.{Kind}
use Rattle.sb_catalog.specs.declared.kinds.Kind.TheVariants as kind

abbrev pub kind_of : Ddl → Kind
kind_of (MessageType d) = kind.MessageType
kind_of (Contract d) = kind.Contract
kind_of (Queue d) = kind.Queue
kind_of (Service d) = kind.Service
kind_of (Route d) = kind.Route
kind_of (Priority d) = kind.Priority
kind_of (Table d) = kind.Table
kind_of (Procedure d) = kind.Procedure

abbrev pub name_of : Ddl → Bytes
name_of (MessageType d) = d.name
name_of (Contract d) = d.name
name_of (Queue d) = d.name
name_of (Service d) = d.name
name_of (Route d) = d.name
name_of (Priority d) = d.name
name_of (Table d) = d.name
name_of (Procedure d) = d.name
