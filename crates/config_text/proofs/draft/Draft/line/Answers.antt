use Rattle.text_lines.specs.Lines.{views}
use Rattle.config_text.specs.declared.stage.Stage.TheVariants as stage
use Rattle.config_text.specs.Place.{place_of}
use Rattle.config_text.proofs.BodyLine.{takes_body}
use Rattle.config_text.proofs.draft.Draft.line.Goals as goal

pub returns-in-Scripts : goal.returns-in-Scripts
returns-in-Scripts c = takes_body stage.Scripts (place_of c.args.self.now) (place_of c.body.new.self) (views c.args.words.now) c.body.result c.in-Scripts.is tt c.body.ensures

pub returns-in-Gates : goal.returns-in-Gates
returns-in-Gates c = takes_body stage.Gates (place_of c.args.self.now) (place_of c.body-in-Gates.new.self) (views c.args.words.now) c.body-in-Gates.result c.in-Gates.is tt c.body-in-Gates.ensures

pub returns-in-Processes : goal.returns-in-Processes
returns-in-Processes c = takes_body stage.Processes (place_of c.args.self.now) (place_of c.body-in-Processes.new.self) (views c.args.words.now) c.body-in-Processes.result c.in-Processes.is tt c.body-in-Processes.ensures

pub returns-in-Items : goal.returns-in-Items
returns-in-Items c = takes_body stage.Items (place_of c.args.self.now) (place_of c.body-in-Items.new.self) (views c.args.words.now) c.body-in-Items.result c.in-Items.is tt c.body-in-Items.ensures
