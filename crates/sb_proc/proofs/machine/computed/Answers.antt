use Rattle.sb_proc.specs.Seen.{scope_of}
use Rattle.sb_proc.proofs.Passing.{else_of_stored}
use Rattle.sb_proc.proofs.Storing.{declare_goes, set_goes, test_gives}
use Rattle.sb_proc.proofs.machine.computed.Goals as goal

pub returns-in_ok-declare_all-in-Declare : goal.returns-in_ok-declare_all-in-Declare
returns-in_ok-declare_all-in-Declare c =
    declare_goes c.args.variables.now c.declare_all.new.variables c.args.statement.now c.in-Declare.declarations c.as_slice.result.now
    c.in-Declare.is c.as_slice.ensures c.in_ok-declare_all-in-Declare.ensures

pub returns-in_ok-set-in-Set : goal.returns-in_ok-set-in-Set
returns-in_ok-set-in-Set c =
    set_goes c.args.variables.now c.set.new.variables c.args.statement.now c.in-Set.variable c.in-Set.value c.in-Set.is c.in_ok-set-in-Set.ensures

pub returns-in-If : goal.returns-in-If
returns-in-If c =
    test_gives c.args.variables.now (scope_of c.of.result) c.args.statement.now c.in-If.condition c.in-If.then c.in-If.otherwise c.holds.result c.in-If.is c.of.ensures c.holds.ensures

pub returns-in_default : goal.returns-in_default
returns-in_default c = else_of_stored c.args.variables.now c.args.statement.now c.in_default.not-Declare c.in_default.not-Set c.in_default.not-If
