-- What BEGIN DIALOG asks, by what its parts came to.
use Rattle.std.proofs.Common.{◌≡◌, List, Option, Some, Ok, sym, ap, ◌∙◌}
use Rattle.std.specs.Prelude.{option_map}
use Rattle.sb_log.specs.declared.identifiers.Handle.{Handle}
use Rattle.sb_log.specs.declared.requests.Request.TheVariants as request
use Rattle.sb_model.specs.Sides.{Bytes}
use Rattle.sb_grammar.specs.declared.tree.BrokerInstance.{BrokerInstance}
use Rattle.sb_grammar.specs.declared.tree.DialogOption.{DialogOption}
use Rattle.sb_grammar.specs.declared.tree.Expr.{Expr}
use Rattle.sb_value.specs.Faults.{and_then}
use Rattle.sb_proc.specs.declared.dialog.Chosen.{Chosen}
use Rattle.sb_proc.specs.Expressions.{text}
use Rattle.sb_proc.specs.Requests.{Place, asks, chosen, dialog_asked, named_instance}
use Rattle.sb_proc.specs.Scopes.{Scope, is_declared}

pub dialog_goes : (p : Place) (s : Scope) (variable from source : Bytes) (to : Expr) (service : Bytes) (instance : Option BrokerInstance) (named : Option Handle)
    (contract copy : Option Bytes) (options given : List DialogOption) (c : Chosen) → is_declared s variable ≡ Ok tt → text s to ≡ Ok service → given ≡ options →
    chosen s given ≡ Ok c → source ≡ from → named ≡ option_map (named_instance p.who) instance → copy ≡ contract →
    dialog_asked p s variable from to instance contract options ≡ Ok (Some (request.BeginDialog source service named copy c.relation c.lifetime))
dialog_goes p s variable from source to service instance named contract copy options given c declared texts same chooses is names copies =
    let last = λ (d : Chosen). asks (request.BeginDialog from service (option_map (named_instance p.who) instance) contract d.relation d.lifetime) in
    ap (λ r. and_then r (λ _. and_then (text s to) (λ q. and_then (chosen s options) (λ d. asks (request.BeginDialog from q (option_map (named_instance p.who) instance) contract d.relation d.lifetime))))) declared
    ∙ ap (λ r. and_then r (λ q. and_then (chosen s options) (λ d. asks (request.BeginDialog from q (option_map (named_instance p.who) instance) contract d.relation d.lifetime)))) texts
    ∙ ap (λ os. and_then (chosen s os) last) (sym same) ∙ ap (λ r. and_then r last) chooses
    ∙ ap (λ n. asks (request.BeginDialog n service (option_map (named_instance p.who) instance) contract c.relation c.lifetime)) (sym is)
    ∙ ap (λ i. asks (request.BeginDialog source service i contract c.relation c.lifetime)) (sym names)
    ∙ ap (λ k. asks (request.BeginDialog source service named k c.relation c.lifetime)) (sym copies)
