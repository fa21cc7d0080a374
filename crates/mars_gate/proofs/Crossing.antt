-- Sessions may move into threads: what they own may, and what they borrow may be shared.
--
-- Types that hold terms have no proof of this of their own, since a term leads back to itself; so here each has one, from the
-- inside out, by the laws of its fields.
use denote.Ref.{NamedLft}
use denote.Param.Send.{IsSend, IsSync, plain_send, plain_sync, shr_send, shr_slice_send, view_send, view_sync, sendable}
use denote.Param.SendFields.{declared_send, declared_sync, variants_send, variants_sync, as_row_send, as_row_sync}
use Rattle.std.proofs.Crossing.{crosses}
use Rattle.std.proofs.alloc.Global.TheSendSync as global
use Rattle.std.proofs.option.Option.TheSendSync as option
use Rattle.std.proofs.hash.BuildHasherDefault.TheSendSync as hashers
use Rattle.std.proofs.hash.FoldHasher.TheSendSync as hasher
use Rattle.sqlite_items.proofs.items.Items.TheSendSync as items
use Rattle.sqlite_items.proofs.boxed.Boxed.TheSendSync as boxed
use Rattle.indexmap.proofs.map.IndexMap.TheSendSync as index_map
use Rattle.mars_tree.proofs.label.NameId.TheSendSync as name_id
use Rattle.mars_tree.proofs.graph.Graph.TheSendSync as graph
use Rattle.mars_tree.proofs.names.Names.TheSendSync as names
use Rattle.mars_term.proofs.clause.Version.TheSendSync as version
use Rattle.mars_term.proofs.term.Term.TheLaws.TheKnot as knot
use Rattle.mars_term.specs.contracts.term.Term as Term
use Rattle.mars_term.specs.contracts.clause.Goal as Goal
use Rattle.mars_term.specs.contracts.clause.Rule as Rule
use Rattle.mars_term.specs.contracts.clause.Ask as Ask
use Rattle.mars_script.specs.contracts.script.Command as Command
use Rattle.mars_rules.proofs.flat.FlatRule.TheSendSync as flat_rule
use Rattle.mars_rules.proofs.keys.HeadKey.TheSendSync as head_key
use Rattle.mars_rules.proofs.heads.Heads.TheSendSync as heads
use Rattle.mars_rules.specs.contracts.base.RuleBase as RuleBase
use Rattle.mars_canon.proofs.tree.Tree.TheSendSync as tree
use Rattle.mars_store.proofs.node_id.NodeId.TheSendSync as node_id
use Rattle.mars_goals.proofs.points.ChoicePoints.TheSendSync as points
use Rattle.mars_goals.proofs.goal_list.GoalList.TheSendSync as goal_list
use Rattle.mars_memory.proofs.memory.Memory.TheSendSync as memory
use Rattle.mars_store.proofs.registers.Registers.TheSendSync as registers
use Rattle.mars_run.specs.contracts.machine.Machine as Machine
use Rattle.mars_answer.proofs.answers.Answer.TheSendSync as answer
use Rattle.mars_table.proofs.entry.Entry.TheSendSync as entry
use Rattle.mars_session.proofs.named.Named.TheSendSync as named
use Rattle.mars_session.proofs.acts.Latest.TheSendSync as latest
use Rattle.mars_session.proofs.wishes.Wish.TheSendSync as wish
use Rattle.mars_session.proofs.text.SessionText.TheSendSync as text
use Rattle.mars_session.specs.contracts.asking.Asking as Asking
use Rattle.mars_session.specs.contracts.session.Session as Session

term_send : IsSend Term.the_row
term_send = search (sendable, crosses, knot.crosses, items.the_send, items.the_sync, boxed.the_send, boxed.the_sync, name_id.the_send, name_id.the_sync) depth 12

term_sync : IsSync Term.the_row
term_sync = search (sendable, crosses, knot.crosses, items.the_send, items.the_sync, boxed.the_send, boxed.the_sync, name_id.the_send, name_id.the_sync) depth 12

goal_send : IsSend Goal.the_row
goal_send = search (variants_send, term_send, tt) depth 20

goal_sync : IsSync Goal.the_row
goal_sync = search (variants_sync, term_sync, tt) depth 20

rule_sync : IsSync Rule.the_row
rule_sync = search (declared_sync, as_row_sync, plain_sync, items.the_sync, term_sync, goal_sync, crosses, tt) depth 12

ask_send : IsSend Ask.the_row
ask_send = search (declared_send, as_row_send, plain_send, items.the_send, name_id.the_send, option.the_send, goal_send, crosses, tt) depth 12

ask_sync : IsSync Ask.the_row
ask_sync = search (declared_sync, as_row_sync, plain_sync, items.the_sync, name_id.the_sync, option.the_sync, goal_sync, crosses, tt) depth 12

command_sync : IsSync Command.the_row
command_sync = search (variants_sync, as_row_sync, plain_sync, name_id.the_sync, graph.the_sync, ask_sync, tt) depth 12

base_sync : IsSync RuleBase.the_row
base_sync = search (view_sync, declared_sync, as_row_sync, plain_sync, crosses, global.the_sync, rule_sync, version.the_sync, flat_rule.the_sync, index_map.the_sync, hashers.the_sync, hasher.the_sync, head_key.the_sync, heads.the_sync, tt) depth 24

machine_send : (κ : NamedLft) → IsSend (Machine.the_row κ)
machine_send κ = search (view_send, declared_send, as_row_send, plain_send, shr_send, crosses, global.the_send, option.the_send, ask_send, base_sync, tree.the_send, memory.the_send, points.the_send, registers.the_send, node_id.the_send, goal_list.the_send, tt) depth 40

asking_send : (κ : NamedLft) → IsSend (Asking.the_row κ)
asking_send κ = search (declared_send, as_row_send, plain_send, crosses, machine_send, tt) depth 40

pub session_send : (κ : NamedLft) → IsSend (Session.the_row κ)
session_send κ = search (view_send, declared_send, as_row_send, plain_send, shr_send, shr_slice_send, crosses, global.the_send, option.the_send, name_id.the_send, command_sync, names.the_sync, base_sync, answer.the_send, named.the_send, latest.the_send, asking_send, wish.the_send, entry.the_send, text.the_send, tt) depth 40
