use Rattle.std.proofs.Common.{◌≡◌, ◌∙◌, ◌++◌, [], List, true, false, if◌then◌else◌, length, arith, ap, sym, append-nil}
use Rattle.hist_types.specs.Transactions.{Transaction, is_node}
use Rattle.dep_edges.specs.Tables.{txn_at}
use Rattle.edge_graph.specs.LaidOut.{readers_behind, writers_behind}
use Rattle.edge_graph.proofs.layout.Layout.push_txn.Goals as goal

-- the transaction's row, where it is no node
pub returns-then-not-is_node : goal.returns-then-not-is_node
returns-then-not-is_node c =
    let ts : List Transaction = c.args.self.now.history.now.txns in
    let keys = c.args.self.now.history.now.table.keys in
    let place = c.args.place in
    let before = c.args.items.now.items in
    let (vertices, read, are) = c.in_ok-push_read.ensures in
    let node : false ≡ is_node ts (txn_at ts place) =
    sym c.if-not-is_node.true ∙ c.is_node.ensures ∙ ap (λ (xs : List Transaction). is_node xs (txn_at xs place)) (sym c.args.self.now.of_one) in
    let one : (before ++ vertices) ++ [] ≡ before ++ vertices = append-nil (before ++ vertices) in
    let end : c.in_ok-rw.rw ≡ length c.push_read.new.out.items = omega (arith, c.in_ok-rw.ensures, c.len.ensures, c.push_read.new.out.ok.0) in (
      record { rw = vertices; wr = []; ww = [] },
      record { rw = are; wr = ap (λ b. if b then readers_behind ts place else []) node; ww = ap (λ b. if b then writers_behind keys ts place else []) node },
      record {
        items = read ∙ sym one ∙ sym (append-nil ((before ++ vertices) ++ []));
        rw = end ∙ ap length read;
        wr = end ∙ ap length (read ∙ sym one);
        ww = end;
      },
    )

pub returns : goal.returns
returns c =
    let ts : List Transaction = c.args.self.now.history.now.txns in
    let keys = c.args.self.now.history.now.table.keys in
    let place = c.args.place in
    let before = c.args.items.now.items in
    let readers = readers_behind ts place in
    let writers = writers_behind keys ts place in
    let (vertices, read, are) = c.in_ok-push_read.ensures in
    let node : true ≡ is_node ts (txn_at ts place) =
    sym c.if-not-is_node.false ∙ c.is_node.ensures ∙ ap (λ (xs : List Transaction). is_node xs (txn_at xs place)) (sym c.args.self.now.of_one) in
    let behind : c.push_readers.new.out.items ≡ (before ++ vertices) ++ readers = c.in_ok-push_readers.ensures ∙ ap (λ xs. xs ++ readers) read in
    let all : c.push_writers.new.out.items ≡ ((before ++ vertices) ++ readers) ++ writers = c.in_ok-push_writers.ensures ∙ ap (λ xs. xs ++ writers) behind in (
      record { rw = vertices; wr = readers; ww = writers },
      record { rw = are; wr = ap (λ b. if b then readers else []) node; ww = ap (λ b. if b then writers else []) node },
      record {
        items = all;
        rw = omega (arith, c.in_ok-rw.ensures, c.len.ensures, c.push_read.new.out.ok.0, ap length read);
        wr = omega (arith, c.in_ok-wr.ensures, c.len-2.ensures, c.push_readers.new.out.ok.0, ap length behind);
        ww = omega (arith, c.in_ok-ww.ensures, c.len-3.ensures, c.push_writers.new.out.ok.0);
      },
    )
