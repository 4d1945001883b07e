-- Each round but the last leaves fewer payers open.
use Rattle.levy.proofs.closing.+redistribute.Given as goal

abbrev pub decreases-redistribute : goal.decreases-redistribute
decreases-redistribute l = l.m
