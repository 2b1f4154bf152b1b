mod Numbers
mod Goes
mod Texts
mod NoStatements
mod Alone
mod Within
