use Rattle.std.proofs.Common.{Some, None, ap, sym, ◌∙◌}
use Rattle.std.specs.Prelude.{option_map}
use Rattle.cola_plain.proofs.GrammarLemmas.{found_means}
use Rattle.cola_plain.specs.Grammar.{form_of}
use Rattle.cola_plain.specs.Command.{shape_of}
use Rattle.cola_plain.specs.Lines.{texts}
use Rattle.cola_plain.proofs.command.asked.Goals as goal

pub returns-in-Some : goal.returns-in-Some
returns-in-Some c =
    c.by_grammar.ensures
    ∙ found_means (shape_of c.args.shape.now) c.args.name.now (texts c.args.words.now) (Some (form_of c.in-Some.grammar.now)) (ap (option_map (λ grammar. form_of grammar.now)) (sym c.in-Some.is) ∙ c.named.ensures)

pub returns-in-None : goal.returns-in-None
returns-in-None c =
    found_means (shape_of c.args.shape.now) c.args.name.now (texts c.args.words.now) None (ap (option_map (λ grammar. form_of grammar.now)) (sym c.in-None.is) ∙ c.named.ensures)
