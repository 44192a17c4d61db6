-- Trees and others behind them.
use Rattle.loop_tree.specs.Tree.{Trees, none, more}

abbrev pub joined : Trees → Trees → Trees
joined none us = us
joined (more t ts) us = more t (joined ts us)
