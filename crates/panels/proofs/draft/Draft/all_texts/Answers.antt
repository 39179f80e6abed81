use Rattle.panels.proofs.Linking.{contained_at}
use Rattle.panels.proofs.draft.Draft.all_texts.Goals as goal

pub texts-requires-clause-there : goal.texts-requires-clause-there
texts-requires-clause-there c = contained_at c.args.self.now.panels c.args.index c.args.panel.now c.requires.there

pub returns : goal.returns
returns c = record {
  own = c.in_ok-texts.texts.items;
  shown = c.in_ok-shown.shown.items;
  all = c.in_ok-append.ensures.items;
  are_own = c.in_ok-texts.ensures;
  are_shown = c.in_ok-shown.ensures;
}
